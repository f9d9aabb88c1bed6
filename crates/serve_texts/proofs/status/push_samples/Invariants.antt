use Rattle.std.proofs.Common.{◌≡◌, ◌≤◌, ◌+◌, ◌*◌, ◌++◌, drop}
use Rattle.std.specs.List.{flat_map}
use Rattle.arrayvec.specs.ArrayVec.{array_vec_len}
use Rattle.serve_texts.specs.Status.{sample_text}
use Rattle.serve_texts.proofs.status.push_samples.Given as goal

-- the samples so far are written, and the rest is left
abbrev pub invariant-loop-sample : goal.invariant-loop-sample
invariant-loop-sample l = record {
  items : l.text.items ++ flat_map (sample_text l.numbers) (drop l.sample-index l.samples) ≡ l.initial.text.items ++ flat_map (sample_text l.numbers) l.samples;
  short : array_vec_len l.text ≤ array_vec_len l.initial.text + 281 * l.sample-index;
}
