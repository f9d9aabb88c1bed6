use Rattle.std.proofs.Common.{◌≡◌, ◌≤◌, ◌+◌, ◌++◌, List, length, drop}
use Rattle.std.specs.Prelude.{vec_len, vec_capacity}
use Rattle.ogg_split.specs.declared.salvaging.GoodPage.{GoodPage}
use Rattle.ogg_split.specs.Salvage.{AreGoodFrom}
use Rattle.ogg_split.proofs.salvaging.list_pages.Given as goal

-- the pages so far, and then those from the offset on, are the good pages of all the bytes
abbrev pub invariant-loop-skipped : goal.invariant-loop-skipped
invariant-loop-skipped l = record {
  place : l.rest ≡ drop l.offset l.fn.bytes;
  small : l.offset + length l.rest ≡ length l.fn.bytes;
  listed : List GoodPage;
  items : l.pages.items ≡ l.fn.pages.items ++ listed;
  count : vec_len l.pages ≡ vec_len l.fn.pages + length listed;
  capacity : vec_capacity l.fn.pages ≤ vec_capacity l.pages;
  good : (ranges : List GoodPage) → AreGoodFrom l.offset l.fn.bytes ranges → AreGoodFrom 0 l.fn.bytes (listed ++ ranges);
  left : (ranges : List GoodPage) → AreGoodFrom 0 l.fn.bytes ranges → (later : List GoodPage) × AreGoodFrom l.offset l.fn.bytes later × (length ranges ≡ length listed + length later);
}

abbrev pub decreases-loop-skipped : goal.decreases-loop-skipped
decreases-loop-skipped l = length l.rest
