use Rattle.std.proofs.Common.{sym, subst, refl}
use Rattle.feed_records.proofs.FitsFacts.{Fits, begin_fits, begin_of_fits, end_fits, put_fits, put_of_fits}
use Rattle.feed_records.proofs.fits.fits_record_2.Goals as goal

pub returns-in-Begin : goal.returns-in-Begin
returns-in-Begin c = (
  λ yes. subst Fits (sym c.in-Begin.is) (begin_fits c.in-Begin.begin (c.begin_fits.ensures.0 yes)),
  λ fits. c.begin_fits.ensures.1 (begin_of_fits c.in-Begin.begin (subst Fits c.in-Begin.is fits)),
)

pub returns-in-Put : goal.returns-in-Put
returns-in-Put c = (
  λ yes. subst Fits (sym c.in-Put.is) (put_fits c.in-Put.put (c.put_fits.ensures.0 yes)),
  λ fits. c.put_fits.ensures.1 (put_of_fits c.in-Put.put (subst Fits c.in-Put.is fits)),
)

pub returns-in-End : goal.returns-in-End
returns-in-End c = (λ yes. subst Fits (sym c.in-End.is) (end_fits c.in-End.field-0), λ fits. refl)
