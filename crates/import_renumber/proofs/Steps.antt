-- A command that was answered by the runner below, or not.
use Rattle.std.proofs.Common.{◌≡◌, ℕ, true, false, cond, Option, List, [], ◌++◌, refl, sym, ◌∙◌, ap, subst, inl, inr}
use Rattle.std.specs.Io.KnownBytes.{Appends}
use Rattle.std.proofs.KnownBytes.{Appends-nil}
use Rattle.std.proofs.lemmas.Bool.{cond-true, cond-false}
use Rattle.ogg_page.specs.Output.{WritesPart}
use Rattle.ogg_command.specs.declared.command.Command.{Command}
use Rattle.ogg_command.specs.declared.command.Command.TheVariants.{Begin as BeginOf, Put as PutOf, End as EndOf}
use Rattle.ogg_command.specs.declared.command.Put.{Put}
use Rattle.ogg_command.specs.declared.command.Begin.{Begin}
use Rattle.ogg_command.specs.declared.refusal.Refusal.TheVariants.{Memory}
use Rattle.feed_records.specs.declared.item.Record.{Record}
use Rattle.feed_records.specs.declared.item.Record.TheVariants.{Command as CommandOf, Flush}
use Rattle.feed_replies.specs.declared.reply.Reply.{Reply}
use Rattle.feed_replies.specs.declared.reply.Reply.TheVariants.{Refused}
use Rattle.feed_runner.specs.Refusing.{refuses}
use Rattle.import_renumber.specs.Renumbering.{Answered, AnswersBegin, AnswersLater, AnswersUnder, BeginsUnder, Failed, IsSpare, IsUnder, Renumbering, begun_serials, end_given, put_given}

module _ {S R : Type 0} (answers : S → Record → Reply → List ℕ → S → Type 0) (is_in : S → R → Type 0) where
  pub not_called : (before : Renumbering S) (command : Command) (below : R) (taken now : List ℕ) (names : List (ℕ × ℕ)) (pages : Option (List ℕ)) → IsUnder is_in before below taken names
      → now ≡ taken → Answered answers is_in before command (Refused Memory) below now names pages pages
  not_called before command below taken now names pages under same = ([], before, inr (refl, refl, refl), (under.0, under.1 ∙ sym same, under.2), Appends-nil pages)

  abbrev after_begin : Renumbering S → Begin → List (ℕ × ℕ) → Reply → S → Renumbering S
  after_begin before now names reply after =
      record {
        below = after;
        taken = cond (refuses reply) before.taken (before.taken ++ begun_serials now);
        names = cond (refuses reply) before.names names;
      }

  begun : (before : Renumbering S) (begin now : Begin) (taken : List ℕ) (names : List (ℕ × ℕ)) (reply : Reply) (own : List ℕ) (after : S) → before.taken ≡ taken → BeginsUnder taken names begin now
      → answers before.below (CommandOf (BeginOf now)) reply own after → AnswersBegin answers before begin reply own (after_begin before now names reply after)
  begun before begin now taken names reply own after is begins answered = record {
    names = names;
    now = now;
    begins = subst (λ l. BeginsUnder l names begin now) (sym is) begins;
    answered = answered;
    taken = refl;
    named = refl;
  }

  pub begin_fails : (before : Renumbering S) (begin now : Begin) (old below : R) (taken now_taken : List ℕ) (names given : List (ℕ × ℕ)) (pages new : Option (List ℕ)) → IsUnder is_in before old taken given
      → now_taken ≡ taken → BeginsUnder taken names begin now
      → (reply : Reply) × (own : List ℕ) × (after : S) × answers before.below (CommandOf (BeginOf now)) reply own after × is_in before.below below × WritesPart pages new own
      → Failed answers is_in before (BeginOf begin) below now_taken given pages new
  begin_fails before begin now old below taken now_taken names given pages new under same begins (reply, own, after, answered, still, part) =
      (reply, own, after_begin before now names reply after, inl (begun before begin now taken names reply own after under.1 begins answered), (still, under.1 ∙ sym same, under.2), part)

  pub begin_refused : (before : Renumbering S) (begin now : Begin) (old below : R) (taken now_taken : List ℕ) (names given : List (ℕ × ℕ)) (reply : Reply) (pages new : Option (List ℕ))
      → IsUnder is_in before old taken given → now_taken ≡ taken → BeginsUnder taken names begin now → refuses reply ≡ true
      → (own : List ℕ) × (after : S) × answers before.below (CommandOf (BeginOf now)) reply own after × is_in after below × Appends pages new own
      → Answered answers is_in before (BeginOf begin) reply below now_taken given pages new
  begin_refused before begin now old below taken now_taken names given reply pages new under same begins refused (own, after, answered, is, written) = (
    own,
    after_begin before now names reply after,
    inl (begun before begin now taken names reply own after under.1 begins answered),
    (
      is,
      cond-true (refuses reply) before.taken (before.taken ++ begun_serials now) refused ∙ under.1 ∙ sym same,
      cond-true (refuses reply) before.names names refused ∙ under.2,
    ),
    written,
  )

  pub begin_taken : (before : Renumbering S) (begin now : Begin) (old below : R) (taken now_taken : List ℕ) (names given : List (ℕ × ℕ)) (reply : Reply) (pages new : Option (List ℕ))
      → IsUnder is_in before old taken given → now_taken ≡ taken ++ begun_serials now → BeginsUnder taken names begin now → refuses reply ≡ false
      → (own : List ℕ) × (after : S) × answers before.below (CommandOf (BeginOf now)) reply own after × is_in after below × Appends pages new own
      → Answered answers is_in before (BeginOf begin) reply below now_taken names pages new
  begin_taken before begin now old below taken now_taken names given reply pages new under same begins refused (own, after, answered, is, written) = (
    own,
    after_begin before now names reply after,
    inl (begun before begin now taken names reply own after under.1 begins answered),
    (
      is,
      cond-false (refuses reply) before.taken (before.taken ++ begun_serials now) refused ∙ ap (λ l. l ++ begun_serials now) under.1 ∙ sym same,
      cond-false (refuses reply) before.names names refused,
    ),
    written,
  )

  -- ---- packets and ends
  abbrev after_later : Renumbering S → S → Renumbering S
  after_later before after = record { below = after; taken = before.taken; names = before.names }

  later : (before : Renumbering S) (given : List (ℕ × ℕ) → ℕ → Command) (now : Command) (names : List (ℕ × ℕ)) (reply : Reply) (own : List ℕ) (after : S) → before.names ≡ names
      → (spare : ℕ) × IsSpare names spare × (now ≡ given names spare) → answers before.below (CommandOf now) reply own after
      → AnswersLater answers before (given before.names) reply own (after_later before after)
  later before given now names reply own after is (spare, free, now_is) answered = record {
    spare = spare;
    free = subst (λ n. IsSpare n spare) (sym is) free;
    answered = subst (λ (c : Command). answers before.below (CommandOf c) reply own after) (now_is ∙ ap (λ n. given n spare) (sym is)) answered;
    taken = refl;
    named = refl;
  }

  pub put_answered : (before : Renumbering S) (put : Put) (now : Command) (old below : R) (taken : List ℕ) (names : List (ℕ × ℕ)) (reply : Reply) (pages new : Option (List ℕ)) → IsUnder is_in before old taken names
      → (spare : ℕ) × IsSpare names spare × (now ≡ put_given names spare put)
      → (own : List ℕ) × (after : S) × answers before.below (CommandOf now) reply own after × is_in after below × Appends pages new own
      → Answered answers is_in before (PutOf put) reply below taken names pages new
  put_answered before put now old below taken names reply pages new under given (own, after, answered, is, written) =
      (own, after_later before after, inl (later before (λ n s. put_given n s put) now names reply own after under.2 given answered), (is, under.1, under.2), written)

  pub put_fails : (before : Renumbering S) (put : Put) (now : Command) (old below : R) (taken : List ℕ) (names : List (ℕ × ℕ)) (pages new : Option (List ℕ)) → IsUnder is_in before old taken names
      → (spare : ℕ) × IsSpare names spare × (now ≡ put_given names spare put)
      → (reply : Reply) × (own : List ℕ) × (after : S) × answers before.below (CommandOf now) reply own after × is_in before.below below × WritesPart pages new own
      → Failed answers is_in before (PutOf put) below taken names pages new
  put_fails before put now old below taken names pages new under given (reply, own, after, answered, still, part) =
      (reply, own, after_later before after, inl (later before (λ n s. put_given n s put) now names reply own after under.2 given answered), (still, under.1, under.2), part)

  pub end_answered : (before : Renumbering S) (serial : ℕ) (now : Command) (old below : R) (taken : List ℕ) (names : List (ℕ × ℕ)) (reply : Reply) (pages new : Option (List ℕ)) → IsUnder is_in before old taken names
      → (spare : ℕ) × IsSpare names spare × (now ≡ end_given names spare serial)
      → (own : List ℕ) × (after : S) × answers before.below (CommandOf now) reply own after × is_in after below × Appends pages new own
      → Answered answers is_in before (EndOf serial) reply below taken names pages new
  end_answered before serial now old below taken names reply pages new under given (own, after, answered, is, written) =
      (own, after_later before after, inl (later before (λ n s. end_given n s serial) now names reply own after under.2 given answered), (is, under.1, under.2), written)

  pub end_fails : (before : Renumbering S) (serial : ℕ) (now : Command) (old below : R) (taken : List ℕ) (names : List (ℕ × ℕ)) (pages new : Option (List ℕ)) → IsUnder is_in before old taken names
      → (spare : ℕ) × IsSpare names spare × (now ≡ end_given names spare serial)
      → (reply : Reply) × (own : List ℕ) × (after : S) × answers before.below (CommandOf now) reply own after × is_in before.below below × WritesPart pages new own
      → Failed answers is_in before (EndOf serial) below taken names pages new
  end_fails before serial now old below taken names pages new under given (reply, own, after, answered, still, part) =
      (reply, own, after_later before after, inl (later before (λ n s. end_given n s serial) now names reply own after under.2 given answered), (still, under.1, under.2), part)

  -- ---- a flush
  pub flushed : (before : Renumbering S) (old below : R) (taken : List ℕ) (names : List (ℕ × ℕ)) (reply : Reply) → IsUnder is_in before old taken names
      → (after : S) × answers before.below Flush reply [] after × is_in after below
      → (after : Renumbering S) × AnswersUnder answers before Flush reply [] after × IsUnder is_in after below taken names
  flushed before old below taken names reply under (after, answered, is) = (after_later before after, (answered, refl, refl), (is, under.1, under.2))
