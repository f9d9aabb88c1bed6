-- What a recorder left is refused only for want of memory, or by the disk.
use Rattle.std.proofs.Common.{◌≡◌, ◌⊎◌, inl, inr, ⊎_elim, ℕ, Bool, not, cond, Option, None, Some, List, [], ◌∷◌, ◌++◌, take, map, refl, ◌∙◌, ap, subst}
use Rattle.std.specs.List.{AllZip, find}
use Rattle.std.specs.Option.{option_map}
use Rattle.disk_model.specs.Image.{DiskState, IsImage}
use Rattle.ogg_page.specs.Page.{Page}
use Rattle.ogg_page.specs.StreamLaws.{finished}
use Rattle.ogg_page.specs.declared.fault.PageFault.{PageFault}
use Rattle.gate_file.specs.CommitLaws.{none_commits, one_commit}
use Rattle.gate_file.specs.Found.{IsDamagedAt}
use Rattle.gate_file.specs.Gate.{EndsAt}
use Rattle.gate_file.specs.declared.fault.OpenFault.{OpenFault}
use Rattle.gate_file.specs.declared.fault.OpenFault.TheVariants.{Disk, Page as PageOf, Memory, Chain, Unfinished}
use Rattle.link_chain.specs.ChainState.{chain_state_of, state_of, last_link}
use Rattle.link_chain.specs.Links.{AreLinks, pages_with, serials_of}
use Rattle.link_chain.specs.LinkLaws.{one_chain, in_turn}
use Rattle.link_chain.specs.Recording.{Stream, Recording, HoldsStream, HoldsLinks, Holds}
use Rattle.link_chain.specs.Taking.{AreTaken, fault_of_page, links_with, unfinished_stream}
use Rattle.link_chain.specs.declared.chain_fault.ChainFault.{ChainFault}
use Rattle.link_chain.specs.declared.stream_state.StreamState.{StreamState}
use Rattle.chain_rules.specs.Recording.{add}
use Rattle.ogg_command.specs.declared.command.Command.{Command}
use Rattle.history.specs.World.{World}
use Rattle.history.specs.History.{StandsIn}
use Rattle.file_recorder.specs.Recovery.{Links, Shows}
use Rattle.file_recorder.specs.Taking.{IsBrokenAt, IsUnfinished}

none_some : {T : Type 0} (option : Option T) (value : T) → option ≡ None → option ≡ Some value → ⊥
none_some option value none some = cc

-- ---- no packet is unfinished
whole_streams : (pages : List Page) (serials : List ℕ) (streams : List Stream) → AllZip (HoldsStream pages) serials streams
    → option_map (λ (stream : StreamState). stream.serial) (find (λ (stream : StreamState). not stream.finished) (map (state_of pages) serials)) ≡ None
whole_streams pages [] streams held = refl
whole_streams pages (serial ∷ serials) [] held = absurd held
whole_streams pages (serial ∷ serials) (stream ∷ streams) held =
    ap (λ (b : Bool). option_map (λ (s : StreamState). s.serial) (cond (not (not b)) (Some (state_of pages serial)) (find (λ (s : StreamState). not s.finished) (map (state_of pages) serials))))
    (finished (pages_with serial pages) stream.packets held.0.packets)
    ∙ whole_streams pages serials streams held.1

whole_links : (links : Links) (recording : Recording) → HoldsLinks links recording
    → option_map (λ (stream : StreamState). stream.serial) (find (λ (stream : StreamState). not stream.finished) (map (state_of (last_link links)) (serials_of (last_link links)))) ≡ None
whole_links [] recording held = refl
whole_links (link ∷ links) [] held = absurd held
whole_links (link ∷ []) (streams ∷ recording) held = whole_streams link (serials_of link) streams held.0
whole_links (link ∷ next ∷ links) (streams ∷ recording) held = whole_links (next ∷ links) recording held.1

pub not_unfinished : (bytes : List ℕ) (recording : Recording) (serial : ℕ) → Holds bytes recording → IsUnfinished bytes serial → ⊥
not_unfinished bytes recording serial held is =
    let same : is.links ≡ held.0 = one_chain bytes is.links held.0 is.are_links held.1 in
    none_some (unfinished_stream (chain_state_of held.0)) serial (whole_links held.0 recording held.2) (subst (λ (links : Links). unfinished_stream (chain_state_of links) ≡ Some serial) same is.told)

-- ---- each page may follow
not_taken : (start : Links) (pages : List Page) (page : Page) (rest : List Page) (links mid : Links) (fault : ChainFault) → AreTaken start pages mid
    → fault_of_page (chain_state_of mid) page ≡ Some fault → AreTaken start (pages ++ page ∷ rest) links → ⊥
not_taken start [] page rest links mid fault here told all =
    none_some (fault_of_page (chain_state_of start) page) fault all.0 (subst (λ (l : Links). fault_of_page (chain_state_of l) page ≡ Some fault) here told)
not_taken start (p ∷ pages) page rest links mid fault here told all = not_taken (links_with start p) pages page rest links mid fault here.1 told all.1

pub not_broken : (bytes : List ℕ) (recording : Recording) (offset : ℕ) (fault : ChainFault) → Holds bytes recording → IsBrokenAt bytes offset fault → ⊥
not_broken bytes recording offset fault held is =
    let all : List Page = is.pages ++ is.page ∷ is.rest in
    let taken : AreTaken [] all held.0 = (in_turn all held.0 is.are_pages).1 (subst (λ (l : List ℕ). AreLinks l held.0) is.joined held.1) in
    not_taken [] is.pages is.page is.rest held.0 is.links fault is.taken is.told taken

-- ---- the faults that are left
faults_left : (contents : List ℕ) (recording : Recording) (fault : OpenFault) → Shows contents recording
    → ((offset : ℕ) (page : PageFault) → fault ≡ PageOf offset page → IsDamagedAt contents offset page)
    → ((offset : ℕ) (chain : ChainFault) → fault ≡ Chain offset chain → (end : ℕ) × EndsAt contents end × IsBrokenAt (take end contents) offset chain)
    → ((serial : ℕ) → fault ≡ Unfinished serial → (end : ℕ) × EndsAt contents end × IsUnfinished (take end contents) serial)
    → (fault ≡ Disk) ⊎ (fault ≡ Memory)
faults_left contents recording Disk shows damaged broken unfinished = inl refl
faults_left contents recording Memory shows damaged broken unfinished = inr refl
faults_left contents recording (PageOf offset page) shows damaged broken unfinished =
    let at = damaged offset page refl in
    absurd (none_commits at.pages at.rest contents at.begins at.no_tail shows.bytes shows.commits)
faults_left contents recording (Chain offset chain) shows damaged broken unfinished =
    let (end, ends, at) = broken offset chain refl in
    let same = one_commit shows.bytes (take end contents) contents shows.commits ends.commits in
    absurd (not_broken (take end contents) recording offset chain (subst (λ (l : List ℕ). Holds l recording) same shows.held) at)
faults_left contents recording (Unfinished serial) shows damaged broken unfinished =
    let (end, ends, at) = unfinished serial refl in
    let same = one_commit shows.bytes (take end contents) contents shows.commits ends.commits in
    absurd (not_unfinished (take end contents) recording serial (subst (λ (l : List ℕ). Holds l recording) same shows.held) at)

pub reopened : (disk : DiskState) (first : Recording) (w : World Command) (fault : OpenFault) → IsImage disk disk.contents → StandsIn Shows add first w disk
    → ((offset : ℕ) (page : PageFault) → fault ≡ PageOf offset page → IsDamagedAt disk.contents offset page)
    → ((offset : ℕ) (chain : ChainFault) → fault ≡ Chain offset chain → (end : ℕ) × EndsAt disk.contents end × IsBrokenAt (take end disk.contents) offset chain)
    → ((serial : ℕ) → fault ≡ Unfinished serial → (end : ℕ) × EndsAt disk.contents end × IsUnfinished (take end disk.contents) serial)
    → (fault ≡ Disk) ⊎ (fault ≡ Memory)
reopened disk first w fault is stands damaged broken unfinished =
    ⊎_elim (λ shows. faults_left disk.contents _ fault shows damaged broken unfinished) (λ shows. faults_left disk.contents _ fault shows damaged broken unfinished) (stands disk.contents is)
