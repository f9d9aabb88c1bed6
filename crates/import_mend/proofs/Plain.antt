-- No link is begun with a Skeleton.
use Rattle.std.proofs.Common.{◌≡◌, ℕ, Bool, List, [], ◌∷◌, ◌++◌, Option, refl, sym, subst, inl, inr}
use Rattle.std.specs.List.{AllByRecursion}
use Rattle.std.proofs.lemmas.Bool.{cases_Bool}
use Rattle.ogg_page.specs.Page.{Page}
use Rattle.ogg_page.specs.Laws.PageBytes.{all_both}
use Rattle.ogg_page.specs.LogicalStream.{is_first}
use Rattle.ogg_page.specs.Window.{LentAt}
use Rattle.link_chain.specs.declared.stream_state.StreamState.{StreamState}
use Rattle.link_chain.specs.Taking.{links_with}
use Rattle.ogg_command.specs.declared.command.Command.{Command}
use Rattle.import_gather.specs.Gathered.{Gathered, without_packet}
use Rattle.import_gather.specs.Giving.{IsPlain, begin_if}
use Rattle.import_gather.specs.Kept.{KeptLink, is_too_long, waits}
use Rattle.import_mend.specs.Cut.{cut_links}
use Rattle.import_mend.specs.Gives.{BeginsAgain, EndsEach, EndsStreams, Gives, GivesEnd, Mending, open_streams}
use Rattle.import_mend.specs.Mended.{end_page, is_joined}
use Rattle.import_mend.specs.Steps.{broken_off}
use Rattle.import_mend.specs.Ways.{way_of}
use Rattle.import_mend.specs.Whole.{HasMended, TakesPages, broken_links, links_ended, lost_of}
use Rattle.import_mend.specs.declared.mend.Mend.{Mend}
use Rattle.import_mend.specs.declared.ways.Way.{Way}
use Rattle.import_mend.specs.declared.ways.Way.TheVariants.{Take, Restart, Stranger, Repeated, Misshapen, Full}
use Rattle.import_mend.proofs.Held.{becomes, broken_goes_on, dropped_goes_on, each_ended, known_later}

none : (more : List Command) → more ≡ [] → AllByRecursion IsPlain more
none more is = subst (AllByRecursion IsPlain) (sym is) tt

plain_each : (streams : List StreamState) (links : List (List Page)) (old new : Gathered) (given more : List Command) → EndsEach streams old new more → HasMended links old given → AllByRecursion IsPlain more
plain_each [] links old new given more e h = none more e.1
plain_each (stream ∷ streams) links old new given more (next, own, others, one, each, all) h =
    let dropped : HasMended (cut_links stream.serial links) (without_packet stream.serial old) given = dropped_goes_on stream.serial links old given h in
    let ended : HasMended (links_with (cut_links stream.serial links) (end_page stream.next_sequence stream)) next (given ++ own) = one.gathers.goes_on (cut_links stream.serial links) given dropped.0 dropped.1 in
    subst (AllByRecursion IsPlain) (sym all)
    (all_both IsPlain own others (one.gathers.plain (cut_links stream.serial links) given dropped.0)
    (plain_each streams (links_with (cut_links stream.serial links) (end_page stream.next_sequence stream)) next new (given ++ own) others each ended))

plain_one : (way : Way) (offset lost : ℕ) (page : Page) (old new : Mending) (mend : Option Mend) (given more : List Command) (links : List (List Page)) → way_of old.gathered.chain lost page ≡ way →
    Gives way offset lost page old new mend more → HasMended links old.gathered given → AllByRecursion IsPlain more
plain_one Take offset lost page old new mend given more links way g h =
    elim (cases_Bool (is_first page)) [
      | inl first ↦ (g.0 first).0.plain links given h.0
      | inr later ↦
          (let (stream, known) = known_later old.gathered.chain lost page later way in
          let joined : Bool = is_joined lost stream (is_too_long old.gathered.link page) page in
          let broken : HasMended (broken_links joined page.serial links) (broken_off joined page.serial old.gathered) given = broken_goes_on joined page.serial links old.gathered given h in
          (g.1 later stream known).0.plain (broken_links joined page.serial links) given broken.0)
    ]
plain_one Restart offset lost page old new mend given more links way g h =
    elim g [
      | inl b ↦
          (let again : BeginsAgain page old new more = b.1 in
          let ended : List (List Page) = links_ended (open_streams old.gathered.chain) links in
          let closed : HasMended ended again.closed (given ++ again.ends) = each_ended (open_streams old.gathered.chain) links old.gathered again.closed given again.ends again.each h in
          subst (AllByRecursion IsPlain) (sym again.all)
          (all_both IsPlain again.ends again.own (plain_each (open_streams old.gathered.chain) links old.gathered again.closed given again.ends again.each h)
          (again.begins.plain ended (given ++ again.ends) closed.0)))
      | inr f ↦ (let e : EndsStreams old.gathered new.gathered more = f.1 in plain_each e.ended links old.gathered new.gathered given more e.each h)
    ]
plain_one Stranger offset lost page old new mend given more links way g h = none more g.1
plain_one Repeated offset lost page old new mend given more links way g h = none more g.1
plain_one Misshapen offset lost page old new mend given more links way g h = none more g.1
plain_one Full offset lost page old new mend given more links way g h = none more g.1

pub all_plain : (pages : List LentAt) (old new : Mending) (mends : List (Option Mend)) (before given : List Command) (links : List (List Page)) → TakesPages pages old new mends given
    → HasMended links old.gathered before → AllByRecursion IsPlain given
all_plain [] old new mends before given links t h = none given t.2
all_plain (lent ∷ later) old new mends before given links (next, mend, own, others, rest, one, all, told, is) h =
    let (middle, _, held) = becomes (way_of old.gathered.chain (lost_of old lent.1) lent.1) lent.0 (lost_of old lent.1) lent.1 old next mend before own links refl one.1 h in
    subst (AllByRecursion IsPlain) (sym is)
    (all_both IsPlain own rest (plain_one (way_of old.gathered.chain (lost_of old lent.1) lent.1) lent.0 (lost_of old lent.1) lent.1 old next mend before own links refl one.1 h)
    (all_plain later next new others (before ++ own) rest middle all held))

pub end_plain : ((link : KeptLink) → AllByRecursion IsPlain (begin_if (waits link) link)) → (links : List (List Page)) (old new : Gathered) (given more : List Command)
    → GivesEnd old new more → HasMended links old given → AllByRecursion IsPlain more
end_plain begun links old new given more e h =
    subst (AllByRecursion IsPlain) (sym e.all)
    (all_both IsPlain e.ends e.rest (plain_each e.each.ended links old e.closed given e.ends e.each.each h)
    (subst (AllByRecursion IsPlain) (sym e.waited.commands) (begun e.closed.link)))
