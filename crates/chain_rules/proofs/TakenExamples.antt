-- Which pages may follow, on small files.
use Rattle.std.proofs.Common.{◌≡◌, ◌+◌, ℕ, zero, suc, List, [], ◌∷◌, ◌++◌, refl, Option, Some, None, Err, true}
use Rattle.ogg_page.specs.Page.{Page}
use Rattle.ogg_page.specs.Lacing.{lacing_of}
use Rattle.packetiser.specs.Run.{pages_of_run, page_of_run, page_position, run_lacing, run_bytes, values_at, values_before}
use Rattle.link_chain.specs.declared.chain_fault.ChainFault.{ChainFault}
use Rattle.link_chain.specs.declared.chain_fault.ChainFault.TheVariants.{Sequence, Continued, BosPlace, BosShape, SerialTwice, NoStream, AfterEos, BosWhileOpen, TooMany, EosUnfinished}
use Rattle.ogg_command.specs.declared.refusal.Refusal.TheVariants.{SequenceEnd, LinksFull}
use Rattle.link_chain.specs.ChainState.{ChainState, chain_state_of}
use Rattle.chain_rules.specs.Encoding.{pages_of_command}
use Rattle.chain_rules.specs.Decision.{decision}
use Rattle.link_chain.specs.Taking.{fault_of_page, AreTaken, unfinished_stream}
use Rattle.chain_rules.proofs.Examples.{begin, put, hello}

abbrev page : ℕ → ℕ → ℕ → List ℕ → Page
page flags serial sequence lacing = record { flags = flags; position = 0; serial = serial; sequence = sequence; lacing = lacing; body = [] }

-- a first page with a packet of three bytes
abbrev first : ℕ → Page
first serial = page 2 serial 0 (3 ∷ [])

abbrev two : List Page
two = first 1 ∷ page 0 1 1 (5 ∷ []) ∷ []

abbrev three : List Page
three = first 1 ∷ page 0 1 1 (5 ∷ []) ∷ page 4 1 2 [] ∷ []

whole_file : AreTaken [] three (three ∷ [])
unfolding fault_of_page
whole_file = (refl, (refl, (refl, refl)))

-- the serial of an earlier link comes again
two_links : AreTaken [] (three ++ three) (three ∷ three ∷ [])
unfolding fault_of_page
two_links = (refl, (refl, (refl, (refl, (refl, (refl, refl))))))

-- the fault of a page after these pages of one link
abbrev met : List Page → Page → Option ChainFault
met pages next = fault_of_page (chain_state_of (pages ∷ [])) next

no_first : fault_of_page (chain_state_of []) (page 0 1 0 (3 ∷ [])) ≡ Some BosPlace
unfolding fault_of_page
no_first = refl

unknown : met (first 1 ∷ []) (page 0 2 0 (3 ∷ [])) ≡ Some NoStream
unfolding fault_of_page
unknown = refl

gap : met (first 1 ∷ []) (page 0 1 2 (3 ∷ [])) ≡ Some Sequence
unfolding fault_of_page
gap = refl

continued : met (first 1 ∷ []) (page 1 1 1 (3 ∷ [])) ≡ Some Continued
unfolding fault_of_page
continued = refl

not_continued : met (first 1 ∷ page 0 1 1 (255 ∷ []) ∷ []) (page 0 1 2 (3 ∷ [])) ≡ Some Continued
unfolding fault_of_page
not_continued = refl

twice : met (first 1 ∷ []) (first 1) ≡ Some SerialTwice
unfolding fault_of_page
twice = refl

goes_on : met (first 1 ∷ []) (page 2 2 0 (255 ∷ [])) ≡ Some BosShape
unfolding fault_of_page
goes_on = refl

two_packets : met (first 1 ∷ []) (page 2 2 0 (3 ∷ 3 ∷ [])) ≡ Some BosShape
unfolding fault_of_page
two_packets = refl

left_open : met (first 1 ∷ []) (page 4 1 1 (255 ∷ [])) ≡ Some EosUnfinished
unfolding fault_of_page
left_open = refl

-- a page without lacing values can't end the packet that the page before left unfinished
left_open_before : met (first 1 ∷ page 0 1 1 (255 ∷ []) ∷ []) (page 5 1 2 []) ≡ Some EosUnfinished
unfolding fault_of_page
left_open_before = refl

not_last : met (first 1 ∷ []) (page 0 1 1 (255 ∷ [])) ≡ None
unfolding fault_of_page
not_last = refl

unfinished : unfinished_stream (chain_state_of ((first 1 ∷ page 0 1 1 (255 ∷ []) ∷ []) ∷ [])) ≡ Some 1
unfinished = refl

all_finished : unfinished_stream (chain_state_of (two ∷ [])) ≡ None
all_finished = refl

in_the_middle : met two (first 2) ≡ Some BosWhileOpen
unfolding fault_of_page
in_the_middle = refl

after_end : met three (page 0 1 3 (3 ∷ [])) ≡ Some AfterEos
unfolding fault_of_page
after_end = refl

abbrev firsts : ℕ → ℕ → List Page
firsts zero serial = []
firsts (suc n) serial = first serial ∷ firsts n (serial + 1)

last_stream : met (firsts 63 0) (first 63) ≡ None
unfolding fault_of_page
last_stream = refl

stream_more : met (firsts 64 0) (first 64) ≡ Some TooMany
unfolding fault_of_page
stream_more = refl

-- the sequence numbers are used up
no_number : decision (chain_state_of ((page 2 1 4294967295 (3 ∷ []) ∷ []) ∷ [])) (put 1 5 hello) ≡ Err SequenceEnd
unfolding decision pages_of_command pages_of_run page_of_run page_position run_lacing run_bytes values_at values_before lacing_of
no_number = refl

-- the chain state of this number of links, each of which has ended
abbrev after_links : ℕ → ChainState
after_links links = record { streams = record { serial = 1; next_sequence = 3; last_position = 0; ended = true; finished = true } ∷ []; has_data = true; serials = 1 ∷ []; links = links; length_of = 91 }

last_link : fault_of_page (after_links 65535) (first 1) ≡ None
unfolding fault_of_page
last_link = refl

link_more : fault_of_page (after_links 65536) (first 1) ≡ Some TooMany
unfolding fault_of_page
link_more = refl

links_full : decision (after_links 65536) (begin (2 ∷ [])) ≡ Err LinksFull
unfolding decision pages_of_command pages_of_run page_of_run page_position run_lacing run_bytes values_at values_before lacing_of
links_full = refl
