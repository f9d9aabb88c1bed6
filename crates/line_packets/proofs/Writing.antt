-- How the lines of packets come one after the other.
use Rattle.std.proofs.Common.{◌≡◌, ◌++◌, ◌∷◌, [], Bool, List, ℕ, length, map, refl, sym, append_assoc, append-nil, subst, arith}
use Rattle.ogg_command.specs.declared.command.Entry.{Entry}
use Rattle.ogg_command.specs.declared.command.Command.{Command}
use Rattle.line_packets.specs.Choosing.{AreLines, Came, coming, IsLine, LinkState, WritesAll, WritesEntries, WritesHeaders, WritesOne, stream_with, Names, NamesAll, NamesFrom, NamesIf, is_skeleton}
use Rattle.ogg_command.specs.declared.command.NewStream.{NewStream}
use Rattle.line_packets.specs.declared.choosing.Named.{Named}
use Rattle.line_packets.specs.declared.choosing.Wanted.{Wanted}
use Rattle.line_packets.specs.declared.choosing.When.{When}
use Rattle.line_packets.specs.declared.texts.Told.{Told}

module _ (json : Bool) (told : Told) where
  -- no packet is left
  none_left : (packets : List (List ℕ)) → length packets ≡ 0 → AreLines json told packets []
  none_left [] none = refl
  none_left (packet ∷ packets) none = absurd (grind (arith, none))

  module _ (packets rest : List (List ℕ)) (before : List ℕ) (so_far : (text : List ℕ) → AreLines json told rest text → AreLines json told packets (before ++ text)) where
    -- one more is written
    pub one_more : (packet given : List ℕ) (others : List (List ℕ)) (line : List ℕ) → rest ≡ packet ∷ others → given ≡ packet → IsLine json told given line
        → (text : List ℕ) → AreLines json told others text → AreLines json told packets ((before ++ line) ++ text)
    one_more packet given others line is same a_line text lines = subst (AreLines json told packets) (sym (append_assoc before line text))
        (so_far (line ++ text) (subst (λ (r : List (List ℕ)). AreLines json told r (line ++ text)) (sym is)
        (line, text, subst (λ (p : List ℕ). IsLine json told p line) same a_line, lines, refl)))

    pub all_written : length rest ≡ 0 → AreLines json told packets before
    all_written none = subst (AreLines json told packets) (append-nil before) (so_far [] (none_left rest none))

module _ (wanted : Wanted) (when : When) where
  no_entry : (link : LinkState) (entries : List Entry) → length entries ≡ 0 → WritesEntries wanted when link entries link []
  no_entry link [] none = (refl, refl)
  no_entry link (entry ∷ entries) none = absurd (grind (arith, none))

  -- all entries were taken
  pub all_taken : (first link : LinkState) (entries rest : List Entry) (before : List ℕ)
      → ((after : LinkState) (text : List ℕ) → WritesEntries wanted when link rest after text → WritesEntries wanted when first entries after (before ++ text))
      → length rest ≡ 0 → WritesEntries wanted when first entries link before
  all_taken first link entries rest before so_far none =
      subst (WritesEntries wanted when first entries link) (append-nil before) (so_far link [] (no_entry link rest none))

  module _ (link : LinkState) (streams rest : List NewStream) (before : List ℕ)
      (so_far : (text : List ℕ) → WritesHeaders wanted when link rest text → WritesHeaders wanted when link streams (before ++ text)) where
    -- the headers of one stream more are written
    pub one_header : (stream : NewStream) (others : List NewStream) (front : List ℕ) → rest ≡ stream ∷ others
        → WritesOne wanted when link stream.headers (stream_with stream.serial link.streams) front
        → (text : List ℕ) → WritesHeaders wanted when link others text → WritesHeaders wanted when link streams ((before ++ front) ++ text)
    one_header stream others front is lines text all = subst (WritesHeaders wanted when link streams) (sym (append_assoc before front text))
        (so_far (front ++ text) (subst (λ (r : List NewStream). WritesHeaders wanted when link r (front ++ text)) (sym is) (front, text, lines, all, refl)))

    no_stream : (all : List NewStream) → length all ≡ 0 → WritesHeaders wanted when link all []
    no_stream [] none = refl
    no_stream (stream ∷ all) none = absurd (grind (arith, none))

    pub all_headers : length rest ≡ 0 → WritesHeaders wanted when link streams before
    all_headers none = subst (WritesHeaders wanted when link streams) (append-nil before) (so_far [] (no_stream rest none))

module _ (wanted : Wanted) where
  no_command : (link : LinkState) (given : List Came) → length given ≡ 0 → WritesAll wanted link given link []
  no_command link [] none = (refl, refl)
  no_command link (came ∷ given) none = absurd (grind (arith, none))

  module _ (first link : LinkState) (given rest : List Came) (before : List ℕ)
      (so_far : (after : LinkState) (text : List ℕ) → WritesAll wanted link rest after text → WritesAll wanted first given after (before ++ text)) where
    -- all commands were taken
    pub all_commands : length rest ≡ 0 → WritesAll wanted first given link before
    all_commands none = subst (WritesAll wanted first given link) (append-nil before) (so_far link [] (no_command link rest none))

pub no_more : (when : When) (commands : List Command) → length commands ≡ 0 → length (map (coming when) commands) ≡ 0
no_more when [] none = refl
no_more when (command ∷ commands) none = absurd (grind (arith, none))

-- ---- names
no_packet : (packets : List (List ℕ)) → length packets ≡ 0 → NamesAll packets []
no_packet [] none = refl
no_packet (packet ∷ packets) none = absurd (grind (arith, none))

-- one packet more was read
pub one_named : (packets rest : List (List ℕ)) (before : List Named) → ((more : List Named) → NamesAll rest more → NamesAll packets (before ++ more))
    → (packet given : List ℕ) (others : List (List ℕ)) (names : List Named) → rest ≡ packet ∷ others → given ≡ packet → Names given names
    → (more : List Named) → NamesAll others more → NamesAll packets ((before ++ names) ++ more)
one_named packets rest before so_far packet given others names is same one more all = subst (NamesAll packets) (sym (append_assoc before names more))
    (so_far (names ++ more) (subst (λ (r : List (List ℕ)). NamesAll r (names ++ more)) (sym is)
    (names, more, subst (λ (p : List ℕ). Names p names) same one, all, refl)))

pub all_named : (packets rest : List (List ℕ)) (before : List Named) → ((more : List Named) → NamesAll rest more → NamesAll packets (before ++ more))
    → length rest ≡ 0 → NamesAll packets before
all_named packets rest before so_far none = subst (NamesAll packets) (append-nil before) (so_far [] (no_packet rest none))

no_begun : (streams : List NewStream) → length streams ≡ 0 → NamesFrom streams []
no_begun [] none = refl
no_begun (stream ∷ streams) none = absurd (grind (arith, none))

-- one stream more was read
pub one_begun : (streams rest : List NewStream) (before now : List Named) → ((more : List Named) → NamesFrom rest more → NamesFrom streams (before ++ more))
    → (stream : NewStream) (others : List NewStream) (headers : List (List ℕ)) (names : List Named) → rest ≡ stream ∷ others → headers ≡ stream.headers
    → NamesIf (is_skeleton headers) headers names → now ≡ before ++ names
    → (more : List Named) → NamesFrom others more → NamesFrom streams (now ++ more)
one_begun streams rest before now so_far stream others headers names is same one now_is more all =
    subst (λ (l : List Named). NamesFrom streams (l ++ more)) (sym now_is)
    (subst (NamesFrom streams) (sym (append_assoc before names more))
    (so_far (names ++ more) (subst (λ (r : List NewStream). NamesFrom r (names ++ more)) (sym is)
    (names, more, subst (λ (h : List (List ℕ)). NamesIf (is_skeleton h) h names) same one, all, refl))))

pub all_begun : (streams rest : List NewStream) (before : List Named) → ((more : List Named) → NamesFrom rest more → NamesFrom streams (before ++ more))
    → length rest ≡ 0 → NamesFrom streams before
all_begun streams rest before so_far none = subst (NamesFrom streams) (append-nil before) (so_far [] (no_begun rest none))
