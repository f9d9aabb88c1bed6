-- Bytes that have come are the same to a page reader as bytes that its reader still has.
use Rattle.std.proofs.Common.{◌≡◌, ◌≢◌, ℕ, ◌+◌, ◌-◌, ◌^◌, List, [], ◌∷◌, ◌++◌, length, Option, Some, None, Result, Ok, Err, refl, sym, ◌∙◌, ap, subst, arith, append_assoc, append-nil, length-append, inl}
use Rattle.std.specs.Prelude.{min, sum}
use Rattle.ogg_page.specs.Reading.{page_at}
use Rattle.ogg_page.specs.Window.{LentAt}
use Rattle.ogg_page.specs.declared.fault.PageFault.TheVariants.{Short}
use Rattle.import_pages.specs.Laws.{end_given, page_given}
use Rattle.import_pages.specs.Reader.{Gives, GivesEnd, GivesFault, GivesPage, HasAdvanced, ReaderState, unlent}
use Rattle.import_pages.specs.declared.fault.PageReaderFault.{PageReaderFault}
use Rattle.import_pages.specs.declared.fault.PageReaderFault.TheVariants.{Page as PageOf}
use Rattle.import_mend.specs.Found.{FindsPages, PassesAll, PassesOne}

-- ---- a reader that isn't asked for more
nothing_is_short : page_at [] ≡ Err Short
unfolding page_at
nothing_is_short = refl

none_of : (taken : List ℕ) → length taken ≡ 0 → taken ≡ []
none_of [] e = refl
none_of (x ∷ taken) e = absurd (omega (arith, e))

none_taken : (xs taken : List ℕ) → xs ≡ taken ++ xs → taken ≡ []
none_taken xs taken e = none_of taken (omega (arith, ap length e, length-append taken xs))

whole_unread : (unread xs taken : List ℕ) → xs ≡ taken ++ xs → unread ++ taken ≡ unread
whole_unread unread xs taken e = ap (λ l. unread ++ l) (none_taken xs taken e) ∙ append-nil unread

-- a page goes on
pub page_goes_on : (old : ReaderState) (from left : Option (List ℕ)) (lent : LentAt) (new : ReaderState) → HasAdvanced old from (Ok tt) new left
    → new.lent ≡ Some lent → new.outcome ≡ None
page_goes_on old from left lent new h is = (page_given (old.unread ++ h.taken) left old.offset lent new.lent new is h.gives).goes_on

-- what is shown by the bytes that came is found whatever the reader has
pub any_page : (old : ReaderState) (xs zs : List ℕ) (lent : LentAt) (new : ReaderState) → HasAdvanced old (Some xs) (Ok tt) new (Some xs)
    → new.lent ≡ Some lent → HasAdvanced old (Some zs) (Ok tt) new (Some zs)
any_page old xs zs lent new h is = record {
  taken = [];
  consumed = refl;
  gives = subst (λ g. Gives (old.unread ++ []) (Some zs) old.offset (Ok tt) g new) (sym is)
      (subst (λ l. GivesPage l old.offset lent new) (whole_unread old.unread xs h.taken h.consumed ∙ sym (append-nil old.unread))
      (page_given (old.unread ++ h.taken) (Some xs) old.offset lent new.lent new is h.gives));
  cause = h.cause;
}

pub any_pass : (old : ReaderState) (xs zs : List ℕ) (count : ℕ) (new : ReaderState) → page_at old.unread ≢ Err Short
    → PassesOne old (Some xs) count new (Some xs) → PassesOne old (Some zs) count new (Some zs)
any_pass old xs zs count new known p =
    let given : GivesFault (old.unread ++ p.found.taken) (Some xs) old.offset (PageOf p.fault) p.at = p.found.gives in
    let whole : old.unread ++ p.found.taken ≡ old.unread = whole_unread old.unread xs p.found.taken p.found.consumed in
    let again : GivesFault (old.unread ++ p.found.taken) (Some zs) old.offset (PageOf p.fault) p.at =
    record {
      fault_is = record {
        some = given.fault_is.some;
        read = given.fault_is.read;
        short = λ is. absurd (known (ap page_at (sym whole) ∙ given.fault_is.read ∙ ap Err is));
        definite = given.fault_is.definite;
      };
      unread_is = given.unread_is;
      offset_is = given.offset_is;
      ended = given.ended;
      lent_is = given.lent_is;
    } in
    record {
      fault = p.fault;
      at = p.at;
      found = record {
        taken = [];
        consumed = refl;
        gives = subst (λ l. GivesFault l (Some zs) old.offset (PageOf p.fault) p.at) (whole ∙ sym (append-nil old.unread)) again;
        cause = p.found.cause;
      };
      passes = p.passes;
    }

pub no_end : (old : ReaderState) (xs : List ℕ) (new : ReaderState) → page_at old.unread ≢ Err Short → HasAdvanced old (Some xs) (Ok tt) new (Some xs)
    → new.lent ≡ None → ⊥
no_end old xs new known h none =
    let given : GivesEnd (old.unread ++ h.taken) (Some xs) old.offset new = end_given (old.unread ++ h.taken) (Some xs) old.offset new.lent new none h.gives in
    known (ap page_at (sym (whole_unread old.unread xs h.taken h.consumed) ∙ given.none) ∙ nothing_is_short)

-- ---- bytes that have come
abbrev pub pushed : ReaderState → List ℕ → ReaderState
pushed state bytes = record (unlent state) { unread = state.unread ++ bytes }

pub unpushed : (old : ReaderState) (bytes zs : List ℕ) (result : Result (Unit {0}) PageReaderFault) (new : ReaderState) (left : Option (List ℕ))
    → HasAdvanced (pushed old bytes) (Some zs) result new left → HasAdvanced old (Some (bytes ++ zs)) result new left
unpushed old bytes zs result new None h = absurd h.consumed
unpushed old bytes zs result new (Some ys) h = record {
  taken = bytes ++ h.taken;
  consumed = ap (λ l. bytes ++ l) h.consumed ∙ sym (append_assoc bytes h.taken ys);
  gives = subst (λ l. Gives l (Some ys) old.offset result new.lent new) (append_assoc old.unread bytes h.taken) h.gives;
  cause = h.cause;
}

-- ---- pages that are found, one after the other
-- these bytes are passed over
pub record Passed (old : ReaderState) (xs : List ℕ) : Type 0 where
  pub counts : List ℕ
  pub passed : ReaderState
  pub rest : List ℕ
  pub passes : PassesAll counts old (Some xs) passed (Some rest)

-- a page stands here, and then others are found; after the last this holds
abbrev pub Follows : (ReaderState → List ℕ → Type 0) → List LentAt → ReaderState → List ℕ → Type 0
Follows Holds [] state xs = Holds state xs
Follows Holds (lent ∷ later) state xs =
    (next : ReaderState) × (rest : List ℕ) × HasAdvanced state (Some xs) (Ok tt) next (Some rest) × (next.lent ≡ Some lent)
    × (p : Passed next rest) × Follows Holds later p.passed p.rest

-- these pages are found, and then this holds
abbrev pub Reaches : (ReaderState → List ℕ → Type 0) → List LentAt → ReaderState → List ℕ → Type 0
Reaches Holds pages state xs = (p : Passed state xs) × Follows Holds pages p.passed p.rest

abbrev pub none_passed : (state : ReaderState) (xs : List ℕ) → Passed state xs
none_passed state xs = record { counts = []; passed = state; rest = xs; passes = (refl, refl) }

-- it holds of bytes that the reader has if it holds once they have come
abbrev pub IsOfBytes : (ReaderState → List ℕ → Type 0) → Type 0
IsOfBytes Holds = (old : ReaderState) (bytes zs : List ℕ) → Holds (pushed old bytes) zs → Holds old (bytes ++ zs)

follows_unpushed : (Holds : ReaderState → List ℕ → Type 0) → IsOfBytes Holds → (pages : List LentAt) (old : ReaderState) (bytes zs : List ℕ)
    → Follows Holds pages (pushed old bytes) zs → Follows Holds pages old (bytes ++ zs)
follows_unpushed Holds of [] old bytes zs here = of old bytes zs here
follows_unpushed Holds of (lent ∷ later) old bytes zs (next, rest, found, is, p, more) =
    (next, rest, unpushed old bytes zs (Ok tt) next (Some rest) found, is, p, more)

some_is : (xs ys : List ℕ) → (let o : Option (List ℕ) = Some xs in o) ≡ Some ys → xs ≡ ys
some_is xs ys e = cc

pub reaches_unpushed : (Holds : ReaderState → List ℕ → Type 0) → IsOfBytes Holds → (pages : List LentAt) (old : ReaderState) (bytes zs : List ℕ)
    → Reaches Holds pages (pushed old bytes) zs → Reaches Holds pages old (bytes ++ zs)
reaches_unpushed Holds of pages old bytes zs (p, follows) = by p.counts p.passed p.rest p.passes follows
  where
    by : (counts : List ℕ) (passed : ReaderState) (rest : List ℕ) → PassesAll counts (pushed old bytes) (Some zs) passed (Some rest)
        → Follows Holds pages passed rest → Reaches Holds pages old (bytes ++ zs)
    by [] passed rest (same, left) follows = (
      none_passed old (bytes ++ zs),
      follows_unpushed Holds of pages old bytes zs
          (subst (λ (s : ReaderState). Follows Holds pages s zs) same (subst (λ (l : List ℕ). Follows Holds pages passed l) (some_is rest zs left) follows)),
    )
    by (count ∷ counts) passed rest (next, middle, one, more) follows = (
      record {
        counts = count ∷ counts;
        passed = passed;
        rest = rest;
        passes = (
          next,
          middle,
          record { fault = one.fault; at = one.at; found = unpushed old bytes zs (Err (PageOf one.fault)) one.at middle one.found; passes = one.passes },
          more,
        );
      },
      follows,
    )

pub reaches_passed : (Holds : ReaderState → List ℕ → Type 0) (pages : List LentAt) (old : ReaderState) (xs : List ℕ) (count : ℕ) (next : ReaderState)
    → PassesOne old (Some xs) count next (Some xs) → Reaches Holds pages next xs → Reaches Holds pages old xs
reaches_passed Holds pages old xs count next one (p, follows) = (
  record { counts = count ∷ p.counts; passed = p.passed; rest = p.rest; passes = (next, Some xs, one, p.passes) },
  follows,
)

pub reaches_page : (Holds : ReaderState → List ℕ → Type 0) (pages : List LentAt) (old : ReaderState) (xs : List ℕ) (lent : LentAt) (next : ReaderState)
    → HasAdvanced old (Some xs) (Ok tt) next (Some xs) → next.lent ≡ Some lent → Reaches Holds pages next xs → Reaches Holds (lent ∷ pages) old xs
reaches_page Holds pages old xs lent next found is (p, follows) = (none_passed old xs, (next, xs, found, is, p, follows))

-- ---- the pages that are found
pub record Found (Holds : ReaderState → List ℕ → Type 0) (pages : List LentAt) (old : ReaderState) (xs : List ℕ) : Type 0 where
  pub new : ReaderState
  pub rest : List ℕ
  pub finds : FindsPages old (Some xs) pages new (Some rest)
  pub passed : Passed new rest
  pub here : Holds passed.passed passed.rest

pub found : (Holds : ReaderState → List ℕ → Type 0) (pages : List LentAt) (old : ReaderState) (xs : List ℕ) → Reaches Holds pages old xs
    → Found Holds pages old xs
found Holds [] old xs (p, here) = record { new = old; rest = xs; finds = (refl, refl); passed = p; here = here }
found Holds (lent ∷ later) old xs (p, (next, rest, adv, is, q, more)) =
    let after : Found Holds later next rest = found Holds later next rest (q, more) in
    record {
      new = after.new;
      rest = after.rest;
      finds = (
        next,
        Some rest,
        0,
        min (0 + sum p.counts) (2 ^ 64 - 1),
        record { counts = p.counts; passed = p.passed; rest = Some p.rest; passes = p.passes; junk = λ small. refl; found = inl adv },
        is,
        after.finds,
      );
      passed = after.passed;
      here = after.here;
    }
