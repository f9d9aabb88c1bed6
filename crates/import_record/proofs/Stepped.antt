-- A page that was found and taken is a step.
use Rattle.std.proofs.Common.{◌≡◌, List, ℕ, None, Ok, Option, subst}
use Rattle.feed_records.specs.declared.item.Record.{Record}
use Rattle.feed_replies.specs.declared.reply.Reply.{Reply}
use Rattle.import_pages.specs.Reader.{HasAdvanced, ReaderState}
use Rattle.import_record.specs.Reading.{HasTaken, Steps, TakesJunk, TellsJunk}
use Rattle.import_record.specs.Steps.{IntakeState}
use Rattle.import_record.specs.declared.reading.Step.{Step}
use Rattle.import_record.specs.declared.reading.Step.TheVariants.{Ended, Flushed, Page, PassedOver}

pub stepped : {S : Type 0} (answers : S → Record → Reply → List ℕ → S → Type 0) (step : Step) (reader found now : ReaderState) (old new : IntakeState)
    (from left pages new_pages : Option (List ℕ)) (before after : S) → (reader.outcome ≡ None → HasAdvanced reader from (Ok tt) found left) → now ≡ found
    → HasTaken answers step found.lent old pages before new new_pages after → Steps answers step reader old from pages before now new left new_pages after
stepped answers (Page offset junk taken) reader found now old new from left pages new_pages before after advances same has =
    rw same (advances, has)
stepped answers (Ended junk) reader found now old new from left pages new_pages before after advances same has = rw same (advances, has)
stepped answers (Flushed reply) reader found now old new from left pages new_pages before after advances same has = absurd has
stepped answers PassedOver reader found now old new from left pages new_pages before after advances same has = absurd has

-- what is told of the bytes before a page or the end is what was counted
pub told : (step : Step) (old new : ReaderState) (from left : Option (List ℕ)) (end before mid now : ℕ) → mid ≡ before → end ≡ new.offset
    → TakesJunk step end mid now → TellsJunk step old from before new left now
told (Page offset junk taken) old new from left end before mid now same ends takes =
    subst (λ (e : ℕ). TakesJunk (Page offset junk taken) e before now) ends (subst (λ (n : ℕ). TakesJunk (Page offset junk taken) end n now) same takes)
told (Ended junk) old new from left end before mid now same ends takes =
    subst (λ (e : ℕ). TakesJunk (Ended junk) e before now) ends (subst (λ (n : ℕ). TakesJunk (Ended junk) end n now) same takes)
told (Flushed reply) old new from left end before mid now same ends takes = absurd takes
told PassedOver old new from left end before mid now same ends takes = absurd takes
