-- Each command changed, over those before it.
use Rattle.std.proofs.Common.{◌≡◌, ℕ, Bool, true, false, List, [], ◌∷◌, ◌++◌, map, refl, sym, ◌∙◌, ap, subst, append-nil, append_assoc, inl}
use Rattle.std.specs.Prelude.{nat_eq, nat_le, Option, Some, None, ◌||◌, if◌then◌else◌, length}
use Rattle.std.specs.List.{AllByRecursion, AllZip, cons_option, flat_map, fold, list_all, list_any}
use Rattle.std.specs.Map.{values_of}
use Rattle.std.proofs.lemmas.List.Elements.{filter_map-append}
use Rattle.std.proofs.lemmas.List.Sums.{fold-append}
use Rattle.link_chain.specs.Limits.{most_streams}
use Rattle.chain_rules.specs.Recording.{Stream, Recording, add, after, begun, begun_link, change_last, ended_skeleton, with_packet}
use Rattle.chain_rules.specs.Recording.{with_end}
use Rattle.ogg_command.specs.declared.command.Command.{Command}
use Rattle.ogg_command.specs.declared.command.Command.TheVariants.{Begin as BeginOf, Put as PutOf, End as EndOf}
use Rattle.ogg_command.specs.declared.command.Begin.{Begin}
use Rattle.ogg_command.specs.declared.command.Put.{Put}
use Rattle.ogg_command.specs.declared.command.NewStream.{NewStream}
use Rattle.ogg_command.specs.declared.command.Entry.{Entry}
use Rattle.import_changes.specs.declared.options.ChangeOptions.{ChangeOptions}
use Rattle.import_changes.specs.declared.options.Skeletons.{Skeletons}
use Rattle.import_changes.specs.declared.options.Skeletons.TheVariants.{Kept, LeftOut, Made}
use Rattle.import_changes.specs.Options.{is_none, is_none_with}
use Rattle.import_changes.specs.Naming.{AreNamed, AreNames, entries_named, entry_with, is_had, name_of, named, serials_of, stream_named}
use Rattle.import_changes.specs.Naming.{IsFirstFree}
use Rattle.import_changes.specs.Renumbered.{avoided, serials}
use Rattle.import_changes.specs.Links.{IsBefore, IsMadeFor, the_others, those}
use Rattle.import_changes.specs.Said.{IsSaidBy}
use Rattle.import_changes.specs.Skeletons.{BeginThose, BeginsThose, HasHead, IsBegunAs, SaysSo, begin_of, begins_of, headers_of, is_skeleton}
use Rattle.import_changes.specs.Skeletons.{left_out, made_for, said_in, staying}
use Rattle.import_changes.specs.Changed.{ChangeState, FollowsIf, HasChangedBeside, IsChangedIf, IsFollowed, IsNoName, IsPlain, IsUnderNames}
use Rattle.import_changes.specs.Changed.{stream_under}
use Rattle.import_changes.specs.Steps.{Begins, BeginsAs, BeginsDescribed, BeginsPlain, Names, end_of, option_list, put_of}
use Rattle.import_changes.proofs.Names.{all_push, or_right, clash}
use Rattle.import_changes.proofs.Renumbers.{end_named, end_other, ended, ended_serial, grown, grown_serial, names_are, packet_named}
use Rattle.import_changes.proofs.Renumbers.{packet_other}
use Rattle.import_changes.proofs.Lists.{same_serials, zip_push}
use Rattle.import_changes.proofs.Links.{begin_step, change_step, followed_changed, same_last, under_only, under_step}
use Rattle.import_changes.proofs.Begins.{apart_alike, are_begun, begun_alike, begun_left, begun_named, begun_serials, begun_staying}
use Rattle.import_changes.proofs.Begins.{described_only}
use Rattle.import_changes.proofs.Begins.{described_serials, fronts_of, headers_described, headers_named, left_of, made_alike, named_apart}
use Rattle.import_changes.proofs.Begins.{stays_of}

after_push : (commands : List Command) (command : Command) → after [] (commands ++ command ∷ []) ≡ add (after [] commands) command
after_push commands command = fold-append add [] commands (command ∷ [])

-- ---- if something is changed
followed_of : (taken : List ℕ) (b : Bool) (state : ChangeState) (recording now : Recording) → b ≡ false → FollowsIf b taken state recording now
    → IsFollowed taken state recording now
followed_of taken true state recording now e f = clash refl e
followed_of taken false state recording now e f = f

pub by_of : (taken : List ℕ) (state : ChangeState) (commands given : List Command) → is_none state.options ≡ false → HasChangedBeside taken state commands given
    → IsFollowed taken state (after [] commands) (after [] given)
by_of taken state commands given e h = followed_of taken (is_none state.options) state (after [] commands) (after [] given) e h.follows

pub of_by : (taken : List ℕ) (state : ChangeState) (commands given : List Command) → is_none state.options ≡ false → BeginThose state.options commands given
    → AllByRecursion (IsBegunAs state.options) given
    → IsFollowed taken state (after [] commands) (after [] given) → HasChangedBeside taken state commands given
of_by taken state commands given e stay begun by =
    let recording : Recording = after [] commands in
    let now : Recording = after [] given in
    record {
      changed = subst (λ b. IsChangedIf b taken state.options recording now) (sym e) (followed_changed taken state recording now by);
      stay = stay;
      begun = begun;
      follows = subst (λ b. FollowsIf b taken state recording now) (sym e) by;
    }

-- ---- which streams begin
begins_push : (commands : List Command) (command : Command) → begins_of (commands ++ command ∷ []) ≡ begins_of commands ++ cons_option
    (begin_of command) []
begins_push commands command = filter_map-append begin_of commands (command ∷ [])

stay_push : (options : ChangeOptions) (commands given : List Command) (command now : Command) (begin begin_now : Begin)
    → begin_of command ≡ Some begin → begin_of now ≡ Some begin_now
    → BeginThose options commands given → BeginsThose options begin begin_now
    → BeginThose options (commands ++ command ∷ []) (given ++ now ∷ [])
stay_push options commands given command now begin begin_now is now_is all those =
    subst (λ l. AllZip (BeginsThose options) l (begins_of (given ++ now ∷ [])))
    (ap (λ o. begins_of commands ++ cons_option o []) (sym is) ∙ sym (begins_push commands command))
    (subst (AllZip (BeginsThose options) (begins_of commands ++ begin ∷ []))
    (ap (λ o. begins_of given ++ cons_option o []) (sym now_is) ∙ sym (begins_push given now))
    (zip_push (BeginsThose options) (begins_of commands) (begins_of given) begin begin_now all those))

-- these commands begin no link
none_begin : (commands : List Command) (command : Command) → begin_of command ≡ None
    → begins_of commands ≡ begins_of (commands ++ command ∷ [])
none_begin commands command is = sym (append-nil (begins_of commands)) ∙ ap (λ o. begins_of commands ++ cons_option o []) (sym is)
    ∙ sym (begins_push commands command)

stay_on : (options : ChangeOptions) (commands given : List Command) (command : Command) (now : Option Command) → begin_of command ≡ None
    → begins_of given ≡ begins_of (given ++ option_list now)
    → BeginThose options commands given → BeginThose options (commands ++ command ∷ []) (given ++ option_list now)
stay_on options commands given command now is now_is all =
    subst (λ l. AllZip (BeginsThose options) l (begins_of (given ++ option_list now))) (none_begin commands command is)
    (subst (AllZip (BeginsThose options) (begins_of commands)) now_is all)

put_begins : (given : List Command) (entries : List Entry) → begins_of given ≡ begins_of (given ++ option_list (put_of entries))
put_begins given [] = ap begins_of (sym (append-nil given))
put_begins given (entry ∷ entries) = none_begin given (PutOf (record { entries = entry ∷ entries })) refl

end_begins : (given : List Command) (serial : Option ℕ) → begins_of given ≡ begins_of (given ++ option_list (end_of serial))
end_begins given None = ap begins_of (sym (append-nil given))
end_begins given (Some serial) = none_begin given (EndOf serial) refl

-- ---- a `Begin`
-- a link's streams that stay, under their names
abbrev streams_under : Skeletons → List (ℕ × ℕ) → List NewStream → List NewStream
streams_under skeletons names streams = map (stream_named names) (staying skeletons streams)

under_of : (options : ChangeOptions) (state : ChangeState) (names : List (ℕ × ℕ)) (streams : List NewStream) (earlier : List ℕ)
    (before link_now : List Stream)
    → AreNames (avoided options.renumber earlier) names → AreNamed names (serials_of (staying options.skeletons streams))
    → IsBefore options.skeletons (map begun (left_out options.skeletons streams)) (map begun (staying options.skeletons streams))
    earlier (serials_of (streams_under options.skeletons names streams)) before
    → AllByRecursion (IsNoName names) (serials before)
    → link_now ≡ before ++ map begun (streams_under options.skeletons names streams)
    → IsUnderNames (record state { options = options; names = names }) earlier (map begun streams) link_now
under_of options state names streams earlier before link_now are all_named made apart is =
    let skeletons : Skeletons = options.skeletons in
    let stay : List NewStream = staying skeletons streams in
    let stays : List Bool = stays_of skeletons streams in
    let those_are : those stays (map begun streams) ≡ map begun stay = begun_staying skeletons streams in
    let under_are : map (stream_under names) (those stays (map begun streams))
    ≡ map begun (streams_under skeletons names streams) =
    ap (map (stream_under names)) those_are ∙ sym (begun_named names stay) in
    record {
      stays = stays;
      left_out = left_of skeletons streams;
      names = are;
      named = subst (AreNamed names) (sym (begun_serials stay) ∙ ap serials (sym those_are)) all_named;
      before = before;
      made = subst (λ l. IsBefore skeletons (the_others stays (map begun streams)) (those stays (map begun streams)) earlier l before)
          (sym (begun_serials (streams_under skeletons names streams)) ∙ ap serials (sym under_are))
          (subst (λ l. IsBefore skeletons (the_others stays (map begun streams)) l earlier
          (serials_of (streams_under skeletons names streams)) before) (sym those_are)
          (subst (λ l. IsBefore skeletons l (map begun stay) earlier (serials_of (streams_under skeletons names streams)) before)
          (sym (begun_left skeletons streams)) made));
      apart = apart;
      is = is ∙ ap (λ l. before ++ l) (sym under_are);
    }

under_new : (old state new : ChangeState) (streams : List NewStream) (earlier : List ℕ) (before link_now : List Stream)
    → Names old state (staying old.options.skeletons streams) → old.given ≡ earlier
    → new.options ≡ state.options → new.names ≡ state.names
    → IsBefore old.options.skeletons (map begun (left_out old.options.skeletons streams))
    (map begun (staying old.options.skeletons streams)) earlier
    (serials_of (streams_under old.options.skeletons state.names streams)) before
    → AllByRecursion (IsNoName state.names) (serials before)
    → link_now ≡ before ++ map begun (streams_under old.options.skeletons state.names streams)
    → IsUnderNames new earlier (map begun streams) link_now
under_new old state new streams earlier before link_now by given options names made apart is =
    subst (λ o. IsUnderNames (record new { options = o }) earlier (map begun streams) link_now)
    (sym (options ∙ by.options))
    (subst (λ m. IsUnderNames (record new { options = old.options; names = m }) earlier (map begun streams) link_now)
    (sym names)
    (under_of old.options new state.names streams earlier before link_now
    (subst (λ e. AreNames (avoided old.options.renumber e) state.names) given by.names)
    by.named made apart is))

begin_as : (taken : List ℕ) (old new : ChangeState) (begin : Begin) (now : Command) (link_now : List Stream) (commands given : List Command)
    → is_none old.options ≡ false → begin.skeleton ≡ None
    → HasChangedBeside taken old commands given → new.options ≡ old.options → new.given ≡ old.given ++ serials link_now
    → ((recording : Recording) → add recording now ≡ recording ++ link_now ∷ [])
    → IsUnderNames new (taken ++ flat_map serials (after [] given)) (map begun begin.streams) link_now → (begin_now : Begin)
    → now ≡ BeginOf begin_now → BeginsThose old.options begin begin_now
    → IsBegunAs old.options now → HasChangedBeside taken new (commands ++ BeginOf begin ∷ []) (given ++ now ∷ [])
begin_as taken old new begin now link_now commands given is plain h same given_is added under begin_now now_is those begun_as =
    of_by taken new (commands ++ BeginOf begin ∷ []) (given ++ now ∷ []) (ap is_none same ∙ is)
    (subst (λ o. BeginThose o (commands ++ BeginOf begin ∷ []) (given ++ now ∷ [])) (sym same)
    (stay_push old.options commands given (BeginOf begin) now begin begin_now refl (ap begin_of now_is) h.stay those))
    (subst (λ o. AllByRecursion (IsBegunAs o) (given ++ now ∷ [])) (sym same) (all_push (IsBegunAs old.options) given now h.begun begun_as))
    (subst (λ r. IsFollowed taken new r (after [] (given ++ now ∷ [])))
    (ap (λ s. after [] commands ++ begun_link s begin.streams ∷ []) (sym plain) ∙ sym (after_push commands (BeginOf begin)))
    (subst (IsFollowed taken new (after [] commands ++ map begun begin.streams ∷ [])) (sym (added (after [] given)) ∙ sym (after_push given now))
    (begin_step taken old new (after [] commands) (after [] given) (map begun begin.streams) link_now
    (by_of taken old commands given is h) same under given_is)))

plain_changed : (taken : List ℕ) (old state new : ChangeState) (begin : Begin) (now : Command) (commands given : List Command)
    → is_none old.options ≡ false → begin.skeleton ≡ None
    → HasChangedBeside taken old commands given → Names old state (staying old.options.skeletons begin.streams)
    → made_for old.options.skeletons (staying old.options.skeletons begin.streams) ≡ None
    → BeginsPlain state new begin.skeleton (staying old.options.skeletons begin.streams) now
    → HasChangedBeside taken new (commands ++ BeginOf begin ∷ []) (given ++ now ∷ [])
plain_changed taken old state new begin now commands given is plain h by none b =
    let skeletons : Skeletons = old.options.skeletons in
    let stay : List NewStream = staying skeletons begin.streams in
    let streams : List NewStream = map (stream_named state.names) stay in
    let followed : IsFollowed taken old (after [] commands) (after [] given) = by_of taken old commands given is h in
    begin_as taken old new begin now (map begun streams) commands given is plain h (b.options ∙ by.options)
    (b.given ∙ ap (λ l. l ++ serials_of streams) by.given ∙ ap (λ l. old.given ++ l) (sym (begun_serials streams)))
    (λ recording. ap (add recording) b.now_is ∙ ap (λ s. recording ++ begun_link s streams ∷ []) plain)
    (under_new old state new begin.streams (taken ++ flat_map serials (after [] given)) []
    (map begun streams) by followed.given b.options b.names tt tt refl)
    (record { skeleton = begin.skeleton; streams = streams }) b.now_is
    (record {
      headers = headers_named state.names stay;
      says = subst (λ o. SaysSo o (said_in skeletons begin.streams) stay (record { skeleton = begin.skeleton; streams = streams }))
          (sym none) tt;
    })
    (subst (IsBegunAs old.options) (sym b.now_is) (
      named_apart state.names skeletons begin.streams,
      subst (λ o. HasHead o (record { skeleton = begin.skeleton; streams = streams }))
          (sym (made_alike skeletons stay streams (headers_named state.names stay) ∙ none)) plain,
    ))

-- ---- and with a Skeleton
pub named_serials : (names : List (ℕ × ℕ)) (streams : List NewStream)
    → serials_of (map (stream_named names) streams) ≡ map (named names) (serials_of streams)
named_serials names [] = refl
named_serials names (stream ∷ streams) = ap (λ l. named names stream.serial ∷ l) (named_serials names streams)

had_alike : (earlier xs ys : List ℕ) → ((n : ℕ) → list_any (nat_eq n) xs ≡ list_any (nat_eq n) ys) → (n : ℕ)
    → is_had earlier xs n ≡ is_had earlier ys n
had_alike earlier xs ys same n = ap (λ b. list_any (nat_eq n) earlier || b) (same n)

first_alike : (from : ℕ) (earlier xs ys : List ℕ) (serial : ℕ) → ((n : ℕ) → list_any (nat_eq n) xs ≡ list_any (nat_eq n) ys)
    → IsFirstFree from earlier xs serial → IsFirstFree from earlier ys serial
first_alike from earlier xs ys serial same is = record {
  free = sym (had_alike earlier xs ys same serial) ∙ is.free;
  first = λ n low high. sym (had_alike earlier xs ys same n) ∙ is.first n low high;
  none = λ less n low high. sym (had_alike earlier xs ys same n) ∙ is.none less n low high;
  least = λ less n high. sym (had_alike earlier xs ys same n) ∙ is.least less n high;
}

is_before : (skeletons : Skeletons) (streams : List NewStream) (from : ℕ) (left stay : List Stream) (earlier serials : List ℕ)
    (skeleton : Stream) → made_for skeletons streams ≡ Some from
    → IsMadeFor from left stay earlier serials skeleton → IsBefore skeletons left stay earlier serials (skeleton ∷ [])
is_before Kept streams from left stay earlier serials skeleton e made = absurd (none e)
  where
    none : None ≡ Some from → ⊥
    none e = cc
is_before LeftOut streams from left stay earlier serials skeleton e made = absurd (none e)
  where
    none : None ≡ Some from → ⊥
    none e = cc
is_before (Made first) streams from left stay earlier serials skeleton e made =
    subst (λ n. IsMadeFor n left stay earlier serials skeleton)
    (by (list_all is_skeleton streams || nat_le most_streams (length streams)) e) made
  where
    value : Some first ≡ Some from → from ≡ first
    value f = cc

    none : None ≡ Some from → ⊥
    none e = cc

    by : (b : Bool) → (if b then None else Some first) ≡ Some from → from ≡ first
    by true f = absurd (none f)
    by false f = value f

made_changed : (taken : List ℕ) (old state new : ChangeState) (begin : Begin) (now : Command) (commands given : List Command) (from : ℕ) (utc : List ℕ)
    → is_none old.options ≡ false → begin.skeleton ≡ None
    → HasChangedBeside taken old commands given → Names old state (staying old.options.skeletons begin.streams)
    → made_for old.options.skeletons (staying old.options.skeletons begin.streams) ≡ Some from
    → BeginsDescribed from utc (said_in old.options.skeletons begin.streams) state new (staying old.options.skeletons begin.streams) now
    → HasChangedBeside taken new (commands ++ BeginOf begin ∷ []) (given ++ now ∷ [])
made_changed taken old state new begin now commands given from utc is plain h by some b =
    let skeletons : Skeletons = old.options.skeletons in
    let followed : IsFollowed taken old (after [] commands) (after [] given) = by_of taken old commands given is h in
    let earlier : List ℕ = taken ++ flat_map serials (after [] given) in
    let stay : List NewStream = staying skeletons begin.streams in
    let said : List (List ℕ) = said_in skeletons begin.streams in
    let left : List Stream = map begun (left_out skeletons begin.streams) in
    let streams : List NewStream = map (stream_named state.names) stay in
    let more : List NewStream = b.described in
    let serials_are : serials_of more ≡ serials_of streams = described_serials state.names said stay more b.each in
    let headers_are : headers_of more ≡ headers_of stay = headers_described state.names said stay more b.each in
    let begun_are : map begun more ≡ map begun streams =
    begun_alike streams more serials_are (headers_are ∙ sym (headers_named state.names stay)) in
    let skeleton : Stream = ended_skeleton b.head more in
    let begin_now : Begin = record { skeleton = Some b.head; streams = more } in
    let says : IsSaidBy said stay begin_now = record {
      head = b.head;
      skeleton = refl;
      utc = utc;
      head_said = b.head_said;
      described = described_only state.names said stay more b.each;
    } in
    let made : IsMadeFor from left (map begun stay) earlier (serials_of streams) skeleton = record {
      head = b.head;
      streams = more;
      is = refl;
      of = serials_are;
      first = first_alike from earlier (values_of state.names) (serials_of streams) b.head.serial
          (λ n. names_are state.names (serials_of stay) by.names.once by.named by.only n
          ∙ ap (list_any (nat_eq n)) (sym (named_serials state.names stay)))
          (subst (λ l. IsFirstFree from l (values_of state.names) b.head.serial) (by.given ∙ followed.given) b.first);
      said = said;
      fronts = fronts_of skeletons begin.streams;
      begun = stay;
      are_begun = are_begun stay;
      says = says;
    } in
    begin_as taken old new begin now (skeleton ∷ map begun more) commands given is plain h (b.options ∙ by.options)
    (b.given ∙ ap (λ l. l ++ b.head.serial ∷ serials_of more) by.given
    ∙ ap (λ l. old.given ++ b.head.serial ∷ l) (sym (begun_serials more)))
    (λ recording. ap (add recording) b.now_is)
    (under_new old state new begin.streams earlier (skeleton ∷ []) (skeleton ∷ map begun more) by followed.given b.options b.names
    (is_before skeletons stay from left (map begun stay) earlier (serials_of streams) skeleton some made)
    (or_right (list_any (nat_eq b.head.serial) state.given) (list_any (nat_eq b.head.serial) (values_of state.names)) b.first.free, tt)
    (ap (λ l. skeleton ∷ l) begun_are))
    begin_now b.now_is
    (record { headers = headers_are; says = subst (λ o. SaysSo o said stay begin_now) (sym some) says })
    (subst (IsBegunAs old.options) (sym b.now_is) (
      apart_alike skeletons streams more (headers_are ∙ sym (headers_named state.names stay))
          (named_apart state.names skeletons begin.streams),
      subst (λ o. HasHead o begin_now) (sym (made_alike skeletons stay more headers_are ∙ some))
          (record { said = said; streams = stay; is = says }),
    ))

pub begin_changed : (taken : List ℕ) (utc : List ℕ) (old new : ChangeState) (begin : Begin) (now : Command) (commands given : List Command) → is_none old.options ≡ false
    → begin.skeleton ≡ None
    → Begins utc old new begin now → HasChangedBeside taken old commands given → HasChangedBeside taken new (commands ++ BeginOf begin ∷ []) (given ++ now ∷ [])
begin_changed taken utc old new begin now commands given is plain b h =
    by (made_for old.options.skeletons (staying old.options.skeletons begin.streams)) refl b.begins
  where
    by : (o : Option ℕ) → made_for old.options.skeletons (staying old.options.skeletons begin.streams) ≡ o
        → BeginsAs o utc (said_in old.options.skeletons begin.streams) b.state new begin.skeleton
        (staying old.options.skeletons begin.streams) now
        → HasChangedBeside taken new (commands ++ BeginOf begin ∷ []) (given ++ now ∷ [])
    by None e begins = plain_changed taken old b.state new begin now commands given is plain h b.named e begins
    by (Some from) e begins = made_changed taken old b.state new begin now commands given from utc is plain h b.named e begins

-- ---- packets
put_list : (given : List Command) (entries : List Entry) → after [] (given ++ option_list (put_of entries)) ≡ change_last
    (λ link. fold with_packet link entries) (after [] given)
put_list given [] = ap (after []) (append-nil given) ∙ sym (same_last (after [] given))
put_list given (entry ∷ entries) = after_push given (PutOf (record { entries = entry ∷ entries }))

put_serials : (link : List Stream) (entries : List Entry) → serials (fold with_packet link entries) ≡ serials link
put_serials link [] = refl
put_serials link (entry ∷ entries) =
    put_serials (with_packet link entry) entries ∙ same_serials (grown entry)
    (λ stream. grown_serial entry.packet stream (nat_eq stream.serial entry.serial)) link

put_under : (state : ChangeState) (earlier : List ℕ) (entries : List Entry) (link link_now : List Stream)
    → IsUnderNames state earlier link link_now
    → IsUnderNames state earlier (fold with_packet link entries) (fold with_packet link_now (entries_named state.names entries))
put_under state earlier [] link link_now by = by
put_under state earlier (entry ∷ entries) link link_now by =
    pick (put_under state earlier entries (with_packet link entry)) (name_of state.names entry.serial) refl
  where
    pick : ((now : List Stream) → IsUnderNames state earlier (with_packet link entry) now
        → IsUnderNames state earlier (fold with_packet (with_packet link entry) entries)
        (fold with_packet now (entries_named state.names entries))) →
        (o : Option ℕ) → name_of state.names entry.serial ≡ o →
        IsUnderNames state earlier (fold with_packet (with_packet link entry) entries)
        (fold with_packet link_now (cons_option (entry_with entry o) (entries_named state.names entries)))
    pick rest None e = rest link_now (under_only state earlier link link_now (grown entry) (packet_other state.names entry e) by)
    pick rest (Some now) e =
        rest (with_packet link_now (record entry { serial = now }))
        (under_step state earlier link link_now (grown entry) (grown (record entry { serial = now }))
        (packet_named state.names entry now by.names.distinct e) by)

none_begun : (options : ChangeOptions) (given : List Command) (entries : List Entry) → AllByRecursion (IsBegunAs options) given
    → AllByRecursion (IsBegunAs options) (given ++ option_list (put_of entries))
none_begun options given [] all = subst (AllByRecursion (IsBegunAs options)) (sym (append-nil given)) all
none_begun options given (entry ∷ entries) all = all_push (IsBegunAs options) given (PutOf (record { entries = entry ∷ entries })) all tt

pub put_changed : (taken : List ℕ) (state : ChangeState) (put : Put) (commands given : List Command) → is_none state.options ≡ false
    → HasChangedBeside taken state commands given →
    HasChangedBeside taken state (commands ++ PutOf put ∷ []) (given ++ option_list (put_of (entries_named state.names put.entries)))
put_changed taken state put commands given is h =
    let now : List Entry = entries_named state.names put.entries in
    of_by taken state (commands ++ PutOf put ∷ []) (given ++ option_list (put_of now)) is
    (stay_on state.options commands given (PutOf put) (put_of now) refl (put_begins given now) h.stay)
    (none_begun state.options given now h.begun)
    (subst (λ r. IsFollowed taken state r (after [] (given ++ option_list (put_of now)))) (sym (after_push commands (PutOf put)))
    (subst (IsFollowed taken state (change_last (λ link. fold with_packet link put.entries) (after [] commands))) (sym (put_list given now))
    (change_step taken state (λ link. fold with_packet link put.entries) (λ link. fold with_packet link now) (after [] commands) (after [] given)
    (λ link. put_serials link now) (λ earlier. put_under state earlier put.entries) (by_of taken state commands given is h))))

-- ---- ends
end_list : Option ℕ → List Stream → List Stream
end_list None link = link
end_list (Some serial) link = with_end serial link

end_after : (given : List Command) (serial : Option ℕ) → after [] (given ++ option_list (end_of serial)) ≡ change_last (end_list serial)
    (after [] given)
unfolding end_list
end_after given None = ap (after []) (append-nil given) ∙ sym (same_last (after [] given))
end_after given (Some serial) = after_push given (EndOf serial)

end_serials : (serial : Option ℕ) (link : List Stream) → serials (end_list serial link) ≡ serials link
unfolding end_list
end_serials None link = refl
end_serials (Some serial) link = same_serials (ended serial) (λ stream. ended_serial stream (nat_eq stream.serial serial)) link

end_under : (state : ChangeState) (earlier : List ℕ) (serial : ℕ) (o : Option ℕ) → name_of state.names serial ≡ o
    → (link link_now : List Stream) → IsUnderNames state earlier link link_now
    → IsUnderNames state earlier (with_end serial link) (end_list o link_now)
unfolding end_list
end_under state earlier serial None e link link_now by = under_only state earlier link link_now (ended serial)
    (end_other state.names serial e) by
end_under state earlier serial (Some now) e link link_now by =
    under_step state earlier link link_now (ended serial) (ended now) (end_named state.names serial now by.names.distinct e) by

end_begun : (options : ChangeOptions) (given : List Command) (serial : Option ℕ) → AllByRecursion (IsBegunAs options) given
    → AllByRecursion (IsBegunAs options) (given ++ option_list (end_of serial))
end_begun options given None all = subst (AllByRecursion (IsBegunAs options)) (sym (append-nil given)) all
end_begun options given (Some serial) all = all_push (IsBegunAs options) given (EndOf serial) all tt

pub end_changed : (taken : List ℕ) (state : ChangeState) (serial : ℕ) (commands given : List Command) → is_none state.options ≡ false
    → HasChangedBeside taken state commands given →
    HasChangedBeside taken state (commands ++ EndOf serial ∷ []) (given ++ option_list (end_of (name_of state.names serial)))
end_changed taken state serial commands given is h =
    let now : Option ℕ = name_of state.names serial in
    of_by taken state (commands ++ EndOf serial ∷ []) (given ++ option_list (end_of now)) is
    (stay_on state.options commands given (EndOf serial) (end_of now) refl (end_begins given now) h.stay)
    (end_begun state.options given now h.begun)
    (subst (λ r. IsFollowed taken state r (after [] (given ++ option_list (end_of now)))) (sym (after_push commands (EndOf serial)))
    (subst (IsFollowed taken state (change_last (with_end serial) (after [] commands))) (sym (end_after given now))
    (change_step taken state (with_end serial) (end_list now) (after [] commands) (after [] given) (end_serials now)
    (λ earlier. end_under state earlier serial now refl) (by_of taken state commands given is h))))

-- ---- if nothing is changed
plain_begun : (skeletons : Skeletons) (renumber : Bool) (command : Command) → is_none_with skeletons renumber ≡ true → IsPlain command
    → IsBegunAs (record { renumber = renumber; skeletons = skeletons }) command
plain_begun Kept renumber (BeginOf begin) e plain = ((λ asked. clash asked refl), plain)
plain_begun LeftOut renumber (BeginOf begin) e plain = clash e refl
plain_begun (Made from) renumber (BeginOf begin) e plain = clash e refl
plain_begun skeletons renumber (PutOf put) e plain = tt
plain_begun skeletons renumber (EndOf serial) e plain = tt

begins_same : (options : ChangeOptions) (commands given : List Command) (command : Command) → is_none options ≡ true
    → BeginThose options commands given → BeginThose options (commands ++ command ∷ []) (given ++ command ∷ [])
begins_same options commands given command is all = by command
  where
    same : (skeletons : Skeletons) (renumber : Bool) (begin : Begin) → is_none_with skeletons renumber ≡ true
        → BeginsThose (record { renumber = renumber; skeletons = skeletons }) begin begin
    same Kept renumber begin e = record { headers = refl; says = tt }
    same LeftOut renumber begin e = clash e refl
    same (Made from) renumber begin e = clash e refl

    by : (command : Command) → BeginThose options (commands ++ command ∷ []) (given ++ command ∷ [])
    by (BeginOf begin) = stay_push options commands given (BeginOf begin) (BeginOf begin) begin begin refl refl all
        (same options.skeletons options.renumber begin is)
    by (PutOf put) = stay_on options commands given (PutOf put) (Some (PutOf put)) refl (none_begin given (PutOf put) refl) all
    by (EndOf serial) = stay_on options commands given (EndOf serial) (Some (EndOf serial)) refl (none_begin given (EndOf serial) refl) all

same_if : (taken : List ℕ) (b : Bool) (state : ChangeState) (recording now : Recording) → b ≡ true → now ≡ recording
    → IsChangedIf b taken state.options recording now × FollowsIf b taken state recording now
same_if taken true state recording now e same = (same, same)
same_if taken false state recording now e same = clash e refl

same_of : (taken : List ℕ) (b : Bool) (options : ChangeOptions) (recording now : Recording) → b ≡ true → IsChangedIf b taken options recording now
    → now ≡ recording
same_of taken true options recording now e c = c
same_of taken false options recording now e c = clash e refl

pub same_command : (taken : List ℕ) (state : ChangeState) (command : Command) (commands given : List Command) → is_none state.options ≡ true
    → HasChangedBeside taken state commands given → IsPlain command →
    HasChangedBeside taken state (commands ++ command ∷ []) (given ++ command ∷ [])
same_command taken state command commands given is h plain =
    let recording : Recording = after [] (commands ++ command ∷ []) in
    let now : Recording = after [] (given ++ command ∷ []) in
    let both : IsChangedIf (is_none state.options) taken state.options recording now × FollowsIf (is_none state.options) taken state recording now =
    same_if taken (is_none state.options) state recording now is
    (after_push given command
    ∙ ap (λ r. add r command) (same_of taken (is_none state.options) state.options (after [] commands) (after [] given) is h.changed)
    ∙ sym (after_push commands command)) in
    record {
      changed = both.0;
      stay = begins_same state.options commands given command is h.stay;
      begun = all_push (IsBegunAs state.options) given command h.begun
          (plain_begun state.options.skeletons state.options.renumber command is plain);
      follows = both.1;
    }

-- ---- one command after the other
pub apply_step : (taken : List ℕ) (state : ChangeState) (before yielded given now more : List Command) (command : Command) (out : Option Command)
    → HasChangedBeside taken state ((before ++ yielded) ++ command ∷ []) ((given ++ now) ++ option_list out) → more ≡ now ++ option_list out
    → HasChangedBeside taken state (before ++ (yielded ++ command ∷ [])) (given ++ more)
apply_step taken state before yielded given now more command out h e =
    subst (λ l. HasChangedBeside taken state l (given ++ more)) (append_assoc before yielded (command ∷ []))
    (subst (HasChangedBeside taken state ((before ++ yielded) ++ command ∷ [])) (append_assoc given now (option_list out)
    ∙ ap (λ l. given ++ l) (sym e)) h)

pub all_front : {X : Type 0} (P : X → Type 0) (xs : List X) (x : X) → AllByRecursion P (xs ++ x ∷ []) → AllByRecursion P xs
all_front P [] x all = tt
all_front P (y ∷ xs) x (p, all) = (p, all_front P xs x all)

pub all_last : {X : Type 0} (P : X → Type 0) (xs : List X) (x : X) → AllByRecursion P (xs ++ x ∷ []) → P x
all_last P [] x (p, all) = p
all_last P (y ∷ xs) x (p, all) = all_last P xs x all

pub same_commands : (taken : List ℕ) (state : ChangeState) (before given commands : List Command) → is_none state.options ≡ true
    → HasChangedBeside taken state before given → AllByRecursion IsPlain commands →
    HasChangedBeside taken state (before ++ commands) (given ++ commands)
same_commands taken state before given [] is h plain = subst (HasChangedBeside taken state (before ++ [])) (sym (append-nil given))
    (subst (λ l. HasChangedBeside taken state l given) (sym (append-nil before)) h)
same_commands taken state before given (command ∷ commands) is h (p, plain) =
    subst (HasChangedBeside taken state (before ++ command ∷ commands)) (append_assoc given (command ∷ []) commands)
    (subst (λ l. HasChangedBeside taken state l ((given ++ command ∷ []) ++ commands)) (append_assoc before (command ∷ []) commands)
    (same_commands taken state (before ++ command ∷ []) (given ++ command ∷ []) commands is
    (same_command taken state command before given is h p) plain))

pub no_commands : (taken : List ℕ) (state : ChangeState) → state.given ≡ taken → HasChangedBeside taken state [] []
no_commands taken state given =
    let both : IsChangedIf (is_none state.options) taken state.options [] [] × FollowsIf (is_none state.options) taken state [] [] = by
    (is_none state.options) in
    record { changed = both.0; stay = tt; begun = tt; follows = both.1 }
  where
    by : (b : Bool) → IsChangedIf b taken state.options [] [] × FollowsIf b taken state [] []
    by true = (refl, refl)
    by false = (tt, record { up_to = inl (refl, refl); given = given ∙ sym (append-nil taken) })

-- ---- before the first command
pub taken_more : (taken more : List ℕ) (old new : ChangeState) → new.options ≡ old.options → new.given ≡ old.given ++ more
    → HasChangedBeside taken old [] [] → HasChangedBeside (taken ++ more) new [] []
taken_more taken more old new same given h =
    let beside : List ℕ = taken ++ more in
    let both : IsChangedIf (is_none new.options) beside new.options [] [] × FollowsIf (is_none new.options) beside new [] [] =
    by (is_none new.options) (subst (λ b. FollowsIf b taken old [] []) (ap is_none (sym same)) h.follows) in
    record { changed = both.0; stay = tt; begun = tt; follows = both.1 }
  where
    by : (b : Bool) → FollowsIf b taken old [] []
        → IsChangedIf b (taken ++ more) new.options [] [] × FollowsIf b (taken ++ more) new [] []
    by true f = (refl, refl)
    by false f = (
      tt,
      record {
        up_to = inl (refl, refl);
        given = given ∙ ap (λ l. l ++ more) (f.given ∙ append-nil taken) ∙ sym (append-nil (taken ++ more));
      },
    )
