-- The lines of faults, each with its line feed. They are ours.
use Rattle.std.specs.Prelude.{◌≡◌, ℕ, List, ◌++◌, codes}
use Rattle.std.specs.Fmt.{decimal}
use Rattle.ogg_page.specs.PageFault as P
use Rattle.link_chain.specs.ChainFault as C
use Rattle.gate_file.specs.OpenFault as O
use Rattle.gate_file.specs.declared.fault.OpenFault.{OpenFault}
use Rattle.gate_file.specs.declared.fault.OpenFault.TheVariants.{Disk, Page as OpenPage, Memory as OpenMemory, Chain as OpenChain, Unfinished}
use Rattle.link_index.specs.IndexFault as I
use Rattle.link_index.specs.declared.fault.IndexFault.{IndexFault}
use Rattle.link_index.specs.declared.fault.IndexFault.TheVariants.{Page as IndexPage, Chain as IndexChain, Memory as IndexMemory}
use Rattle.feed_replies.specs.Reply.{line_end}
use Rattle.feed_replies.specs.FeedFault as F
use Rattle.feed_replies.specs.declared.fault.RunFault.{RunFault}
use Rattle.feed_replies.specs.declared.fault.RunFault.TheVariants.{Feed as RunFeed, Write as RunWrite, TooMany as RunTooMany}
use Rattle.import_feed.specs.MakingFault as M
use Rattle.import_feed.specs.declared.fault.MakingFault.{MakingFault}
use Rattle.import_feed.specs.declared.fault.MakingFault.TheVariants.{Page as MakePage, Chain as MakeChain, PacketTooLong, Unfinished as MakeUnfinished, TooLong, Read as MakeRead, Limit, Write as MakeWrite, Memory as MakeMemory}
use Rattle.import_record.specs.RecordFault as R
use Rattle.ogg_finish.specs.FinishFault as Fin
use Rattle.ogg_split.specs.SplitFault as S
use Rattle.serve_machine.specs.HubFault as H
use Rattle.fault_lines.specs.declared.fault.Fault.{Fault}
use Rattle.fault_lines.specs.declared.fault.Fault.TheVariants.{File, Locked, Foreign, Memory, Open, Feed, Write, TooMany, Index, Split, Finish, Make, Archive, NoPage, Mended, Net, Serve, Failed, Refused, Seal, Nothing, Damaged, LeftOut, NoStream, NoTimes}

-- a number and a name, and then this
abbrev pub coded : ℕ → List ℕ → List ℕ → List ℕ
coded code name rest = decimal code ++ (codes " " ++ (name ++ rest))

-- the offset of a page, and the number and the name of what is wrong with it
abbrev pub place : ℕ → ℕ → List ℕ → List ℕ
place offset code name = codes " " ++ (decimal offset ++ (codes " " ++ coded code name line_end))

-- a number, and then this
abbrev pub numbered : ℕ → List ℕ → List ℕ
numbered value rest = codes " " ++ (decimal value ++ rest)

-- what follows the name of a fault of opening
abbrev pub open_rest : OpenFault → List ℕ
open_rest Disk = line_end
open_rest (OpenPage offset fault) = place offset (P.code_of fault) (P.name_of fault)
open_rest OpenMemory = line_end
open_rest (OpenChain offset fault) = place offset (C.code_of fault) (C.name_of fault)
open_rest (Unfinished serial) = numbered serial line_end

-- what follows the name of a fault of indexing
abbrev pub index_rest : IndexFault → List ℕ
index_rest (IndexPage offset fault) = place offset (P.code_of fault) (P.name_of fault)
index_rest (IndexChain offset fault) = place offset (C.code_of fault) (C.name_of fault)
index_rest IndexMemory = line_end

-- what follows the name of a fault of making a feed: the offset in the input, if it has one
abbrev pub make_rest : MakingFault → List ℕ
make_rest (MakePage offset fault) = place offset (P.code_of fault) (P.name_of fault)
make_rest (MakeChain offset fault) = place offset (C.code_of fault) (C.name_of fault)
make_rest (PacketTooLong offset) = numbered offset line_end
make_rest (MakeUnfinished offset serial) = numbered offset (numbered serial line_end)
make_rest (TooLong offset) = numbered offset line_end
make_rest (MakeRead offset) = numbered offset line_end
make_rest Limit = line_end
make_rest MakeWrite = line_end
make_rest MakeMemory = line_end

abbrev pub fault_line : Fault → List ℕ
fault_line File = codes "fault file" ++ line_end
fault_line Locked = codes "fault locked" ++ line_end
fault_line Foreign = codes "fault foreign" ++ line_end
fault_line Memory = codes "fault memory" ++ line_end
fault_line (Open fault) = codes "fault open " ++ coded (O.code_of fault) (O.name_of fault) (open_rest fault)
fault_line (Feed fault) = codes "fault feed " ++ coded (F.code_of fault) (F.name_of fault) line_end
fault_line Write = codes "fault write" ++ line_end
fault_line TooMany = codes "fault run 3 TooMany" ++ line_end
fault_line (Index fault) = codes "fault index " ++ coded (I.code_of fault) (I.name_of fault) (index_rest fault)
fault_line (Split fault) = codes "fault split " ++ coded (S.code_of fault) (S.name_of fault) line_end
fault_line (Finish fault) = codes "fault finish " ++ coded (Fin.code_of fault) (Fin.name_of fault) line_end
fault_line (Make fault) = codes "fault make " ++ coded (M.code_of fault) (M.name_of fault) (make_rest fault)
fault_line (Archive fault) = codes "fault archive " ++ coded (R.code_of fault) (R.name_of fault) line_end
fault_line NoPage = codes "fault archive 4 NoPage" ++ line_end
fault_line Mended = codes "fault mended" ++ line_end
fault_line Net = codes "fault net" ++ line_end
fault_line (Serve fault) = codes "fault serve " ++ coded (H.code_of fault) (H.name_of fault) line_end
fault_line Failed = codes "fault failed" ++ line_end
fault_line Refused = codes "fault refused" ++ line_end
fault_line Seal = codes "fault seal" ++ line_end
fault_line Nothing = codes "fault cut 1 Nothing" ++ line_end
fault_line Damaged = codes "fault damaged" ++ line_end
fault_line LeftOut = codes "fault lines 1 LeftOut" ++ line_end
fault_line NoStream = codes "fault packets 1 NoStream" ++ line_end
fault_line NoTimes = codes "fault packets 2 NoTimes" ++ line_end

-- the fault that the program reports if a run over a feed ended with one
abbrev pub fault_of_run : RunFault → Fault
fault_of_run (RunFeed fault) = Feed fault
fault_of_run RunWrite = Write
fault_of_run RunTooMany = TooMany

-- the fault that is made of a run's fault
abbrev pub IsOfRun : RunFault → Fault → Type 0
IsOfRun run fault = fault ≡ fault_of_run run
