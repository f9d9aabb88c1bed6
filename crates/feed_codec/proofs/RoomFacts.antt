-- Packets for which no room is kept.
use Rattle.std.proofs.Common.{◌≡◌, ◌<◌, ◌+◌, ◌-◌, ◌++◌, ℕ, suc, List, [], ◌∷◌, ◌∙◌, ap, inl, inr, drop, length, arith, append-nil, append_assoc, length-append, subst, sym, ◌^◌}
use Rattle.std.specs.Prelude.{slice_index}
use Rattle.std.specs.List.{flat_map}
use Rattle.std.proofs.lemmas.Grind.{flat_map-append}
use Rattle.std.proofs.lemmas.List.{drop-drop}
use Rattle.ogg_command.specs.declared.command.Entry.{Entry}
use Rattle.ogg_command.specs.declared.command.Command.TheVariants.{Put as PutOf}
use Rattle.ogg_page.specs.Numbers.{u16_bytes}
use Rattle.feed_records.specs.declared.item.Record.TheVariants.{Command as CommandOf}
use Rattle.feed_records.specs.declared.item.Item.TheVariants.{Record as RecordItem}
use Rattle.feed_records.specs.declared.version.Version.{Version}
use Rattle.feed_records.specs.Record.{entry_bytes}
use Rattle.feed_codec.specs.Building.{LacksRoomOf}
use Rattle.feed_codec.specs.Payload.{AreMany, Begins, IsEntryOfFeed}
use Rattle.feed_codec.specs.Room.{LacksEntryRoom, LacksPacketRoom}
use Rattle.feed_codec.proofs.PayloadFacts.{counted_found, put_spelled}
use Rattle.ogg_page.specs.Laws.PageBytes.{all_both}

-- a packet is too long for its room, after those that stand before it
pub lacks_later : (rooms : List ℕ) (front : List Entry) (entry : Entry) (more : List Entry) → slice_index (drop (length front) rooms) 0 < length entry.packet
    → LacksPacketRoom rooms (front ++ entry ∷ more)
lacks_later rooms [] entry more short = inl short
lacks_later rooms (first ∷ front) entry more short =
    let one : suc (length front) ≡ 1 + length front = omega arith in
    let same : drop (suc (length front)) rooms ≡ drop (length front) (drop 1 rooms) = ap (λ n. drop n rooms) one ∙ sym (drop-drop (length front) 1 rooms) in
    inr (lacks_later (drop 1 rooms) front entry more (subst (λ l. slice_index l 0 < length entry.packet) same short))

-- a put whose entries lack room
pub put_lacks : (v : Version) (payload rest : List ℕ) (n room : ℕ) (rooms : List ℕ) → n < 2 ^ 16 → payload ≡ u16_bytes n ++ rest
    → ((entries : List Entry) × AreMany IsEntryOfFeed n entries × (rest ≡ flat_map entry_bytes entries) × LacksEntryRoom room rooms entries)
    → LacksRoomOf room rooms v 2 payload
put_lacks v payload rest n room rooms small whole (entries, many, spelled, lacks) = (
  RecordItem (CommandOf (PutOf (record { entries = entries }))),
  put_spelled v payload n entries small many (counted_found IsEntryOfFeed entry_bytes payload rest n entries whole many spelled),
  lacks,
)

-- a put's entries, of which one is too long for its room
pub entry_lacks : (room : ℕ) (rooms bytes behind : List ℕ) (done count : ℕ) (front : List Entry) (entry : Entry) → done < count → length front ≡ done
    → AreMany IsEntryOfFeed (done + 1) (front ++ entry ∷ []) → bytes ≡ flat_map entry_bytes (front ++ entry ∷ []) ++ behind
    → Begins (AreMany IsEntryOfFeed (count - (done + 1))) (flat_map entry_bytes) behind [] → slice_index (drop done rooms) 0 < length entry.packet
    → (entries : List Entry) × AreMany IsEntryOfFeed count entries × (bytes ≡ flat_map entry_bytes entries) × LacksEntryRoom room rooms entries
entry_lacks room rooms bytes behind done count front entry less long many spelled (later, more, rest) short =
    let short_here : slice_index (drop (length front) rooms) 0 < length entry.packet = subst (λ n. slice_index (drop n rooms) 0 < length entry.packet) (sym long) short in (
      (front ++ entry ∷ []) ++ later,
      (omega (arith, less, many.0, more.0, length-append (front ++ entry ∷ []) later), all_both IsEntryOfFeed (front ++ entry ∷ []) later many.1 more.1),
      spelled
          ∙ ap (λ l. flat_map entry_bytes (front ++ entry ∷ []) ++ l) (rest ∙ append-nil (flat_map entry_bytes later))
          ∙ sym (flat_map-append entry_bytes (front ++ entry ∷ []) later),
      inr (subst (LacksPacketRoom rooms) (sym (append_assoc front (entry ∷ []) later)) (lacks_later rooms front entry later short_here)),
    )
