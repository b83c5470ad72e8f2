-- `slips::writer::Writer::put` writes its words into the part of the buffer from the place reached on. Assumes nothing.
use mathlib.Core.Path.{◌≡◌, ap}
use Prim.Native.Nat.{◌+◌, ◌-◌}
use native.Mathlib.Omega.{arith}
use lib.ListN.{length, length-append, length-take, length-drop}
use Rattle.std.proofs.lemmas.Slice.{take-put_mid, drop-put_mid}
use Rattle.slips.proofs.writer.Writer.put.Goals as goal

pub returns-clause-words : goal.returns-clause-words
returns-clause-words g c =
    let s = c.args.self.now in
    let d = s.words.now in
    let ws = c.args.words in
    let end = s.at + g.row.N in
    let k = end - s.at in
    let is = c.copy_from_slice.ensures.after in
    let long : length ws ≡ g.row.N = omega (arith, ap length is, simp (length-take, length-drop) at c.copy_from_slice.ensures.len) in
    rw is
    (record {
      appended = record {
        is = take-put_mid s.at k d ws end (omega arith) (omega arith);
        rest = drop-put_mid s.at k d ws end (omega arith) (omega arith) (omega arith);
        same = simp (length-append, length-drop, length-take) (omega arith);
        place = omega arith;
      };
    })
