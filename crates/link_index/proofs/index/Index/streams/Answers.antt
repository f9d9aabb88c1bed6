use Rattle.std.proofs.Common.{◌≡◌, ◌≤◌, ◌+◌, ℕ, List, length, sym, ◌∙◌, ap, subst, arith, true, Some}
use Rattle.std.proofs.Common.{refl, slice_index_or}
use Rattle.std.specs.Prelude.{nat_lt, slice_get}
use Rattle.std.specs.Option.{option_map}
use Rattle.std.proofs.lemmas.Bool.{ltb-true}
use Rattle.std.proofs.lemmas.Option.{slice_get-map, slice_get_read}
use Rattle.link_index.specs.declared.info.StreamInfo.{StreamInfo}
use Rattle.link_index.specs.declared.rows.Row.{Row}
use Rattle.link_index.specs.Adding.{IndexState}
use Rattle.link_index.specs.Rows.{entry_of}
use Rattle.link_index.proofs.Packing.{packed_inside, at_place}
use Rattle.link_index.proofs.index.Index.streams.Goals as goal

row_there : (rows lent : List Row) (number : ℕ) (row : Row) → lent ≡ rows → true ≡ nat_lt number (length lent) → row ≡ slice_index_or lent number row → slice_get rows number ≡ Some row
row_there rows lent number row is inside at =
    subst (λ (r : List Row). slice_get r number ≡ Some row) is (slice_get_read lent (length lent) number row refl (ltb-true number (length lent) (sym inside)) at)

pub streams_of-requires : goal.streams_of-requires
streams_of-requires c =
    let row : Row = c.in_ok-row.row.now in
    let rows : List Row = c.self.inside.rows.items in
    let there : slice_get rows c.args.number ≡ Some row = row_there rows c.as_slice.result.now c.args.number row c.as_slice.ensures.value c.in_ok-row.ensures.lookup.0 c.in_ok-row.ensures.lookup.1 in
    omega (
      arith,
      at_place (λ (r : Row). r.first + r.count ≤ length c.self.inside.streams.items) rows c.args.number row there (packed_inside rows 0 (length c.self.inside.streams.items) c.self.invariant.packed),
      ap length c.as_slice-2.ensures.value,
    )

pub returns-clause-streams : goal.returns-clause-streams
returns-clause-streams c =
    let row : Row = c.in_ok-row.row.now in
    let rows : List Row = c.self.inside.rows.items in
    let streams : List StreamInfo = c.self.inside.streams.items in
    let there : slice_get rows c.args.number ≡ Some row = row_there rows c.as_slice.result.now c.args.number row c.as_slice.ensures.value c.in_ok-row.ensures.lookup.0 c.in_ok-row.ensures.lookup.1 in (
      entry_of streams row,
      ap (λ (s : IndexState). slice_get s.entries c.args.number) (sym c.self.view_is) ∙ slice_get-map (entry_of streams) rows c.args.number ∙ ap (option_map (entry_of streams)) there,
      c.streams_of.ensures ∙ ap (λ (s : List StreamInfo). (entry_of s row).streams) c.as_slice-2.ensures.value,
    )
