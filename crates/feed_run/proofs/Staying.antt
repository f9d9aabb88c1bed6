-- What stays while nothing is written, and what then comes.
use Rattle.std.proofs.Common.{◌≡◌, ◌++◌, ◌∙◌, ℕ, List, [], Option, Some, None, Bool, true, false, Ok, Err, refl, sym, ap, subst, inl, inr}
use Rattle.std.proofs.KnownBytes.{Appends-nil, Keeps-trans}
use Rattle.std.specs.Io.KnownBytes.{Appends}
use Rattle.ogg_page.specs.Output.{WritesPart, WritesPrefix}
use Rattle.feed_replies.specs.declared.fault.RunFault.TheVariants.{Feed, Write, TooMany}
use Rattle.feed_records.specs.declared.version.Version.{Version}
use Rattle.feed_codec.specs.Feed.{GivesEnd}
use Rattle.feed_replies.specs.Reply.{reply_line}
use Rattle.feed_replies.specs.declared.reply.Reply.{Reply}
use Rattle.feed_run.specs.Run.{EndsFeed, Leaves, Outcome, StopsAt}
use Rattle.feed_runner.specs.Telling.{Stays, TellsPart}

pub stays_trans : (waits : Bool) (a b c : Option (List ℕ)) → Stays waits a b → Stays waits b c → Stays waits a c
stays_trans false a b c p q = q ∙ p
stays_trans true a b c p q = Keeps-trans a b c p q

pub stays_appends : (waits : Bool) (a b c : Option (List ℕ)) (text : List ℕ) → Stays waits a b → Appends b c text → Appends a c text
stays_appends false a b c text p q = subst (λ x. Appends x c text) p q
stays_appends true None b c text p q = tt
stays_appends true (Some x) None c text p q = absurd p
stays_appends true (Some x) (Some y) None text p q = absurd q
stays_appends true (Some x) (Some y) (Some z) text p q = q ∙ ap (λ l. l ++ text) p

pub stays_prefix : (waits : Bool) (a b c : Option (List ℕ)) (text : List ℕ) → Stays waits a b → WritesPrefix b c text → WritesPrefix a c text
stays_prefix waits a b c text p (n, within, q) = (n, within, stays_appends waits a b c _ p q)

pub stays_part : (waits : Bool) (a b c : Option (List ℕ)) (text : List ℕ) → Stays waits a b → WritesPart b c text → WritesPart a c text
stays_part waits a b c text p (n, less, q) = (n, less, stays_appends waits a b c _ p q)

pub stays_told : (waits : Bool) (a b c : Option (List ℕ)) (line : List ℕ) → Stays waits a b → TellsPart waits b c line → TellsPart waits a c line
stays_told false a b c line p told = stays_part false a b c line p told
stays_told true a b c line p told = stays_prefix true a b c line p told

-- the end of the feed is one reason among others
pub ends_for : (enough : Bool) (known : Option Version) (old new : Option (List ℕ)) → GivesEnd known old new → EndsFeed enough known old new
ends_for false known old new end = end
ends_for true known old new end = inl end

pub stays_none : (waits : Bool) (a b : Option (List ℕ)) → Stays waits a b → Appends a b []
stays_none waits a b p = stays_appends waits a b b [] p (Appends-nil b)

-- nothing was written before the writers that failed
pub stops_after : {S : Type 0} (waits : Bool) (p0 p1 p2 l0 l1 l2 : Option (List ℕ)) (own : List ℕ) (reply : Reply) (before reached after : S)
    → Stays waits p0 p1 → Stays waits l0 l1 → StopsAt waits p1 p2 l1 l2 own reply before reached after
    → StopsAt waits p0 p2 l0 l2 own reply before reached after
stops_after waits p0 p1 p2 l0 l1 l2 own reply before reached after p l (inl (written, stays, same)) =
    inl (stays_part waits p0 p1 p2 own p written, stays_trans waits l0 l1 l2 l stays, same)
stops_after waits p0 p1 p2 l0 l1 l2 own reply before reached after p l (inr (written, told, same)) =
    inr (stays_appends waits p0 p1 p2 own p written, stays_told waits l0 l1 l2 (reply_line reply) l told, same)

-- that no further record is wanted stays so
ends_still : (enough more : Bool) (known : Option Version) (old new : Option (List ℕ)) → (enough ≡ true → more ≡ true)
    → EndsFeed enough known old new → EndsFeed more known old new
ends_still false more known old new stays end = ends_for more known old new end
ends_still true more known old new stays end = subst (λ b. EndsFeed b known old new) (sym (stays refl)) end

pub leaves_still : (outcome : Outcome) (known : Option Version) (count : ℕ) (enough more : Bool) (old new : Option (List ℕ))
    → (enough ≡ true → more ≡ true) → Leaves outcome known count enough old new → Leaves outcome known count more old new
leaves_still (Ok _) known count enough more old new stays leaves = ends_still enough more known old new stays leaves
leaves_still (Err (Feed fault)) known count enough more old new stays leaves = leaves
leaves_still (Err TooMany) known count enough more old new stays leaves = leaves
leaves_still (Err Write) known count enough more old new stays leaves = leaves
