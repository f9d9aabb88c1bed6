use Rattle.archive_clock.proofs.told.utc_of.Goals as goal

pub returns : goal.returns
returns c =
    record {
      year = c.civil_of-year.result.0;
      month = c.civil_of-year.result.1;
      day = c.civil_of-year.result.2;
      millisecond = c.civil_of-year.result.3;
      civil = c.civil_of-year.ensures;
      text_is = c.utc_text.ensures;
    }
