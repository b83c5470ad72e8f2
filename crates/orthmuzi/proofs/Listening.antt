-- Pieces taken one after the other: what the scan says at the end is what their text says.
-- Assumes nothing.
use Rattle.std.specs.Prelude.{Option, None, Some}
use Rattle.std.specs.Io.KnownBytes.{Consumes, IsAtEnd}
use Rattle.std.proofs.KnownBytes.{Consumes-nil, Consumes-trans, Consumes-whole}
use Rattle.std.proofs.Common.{◌≡◌, refl, sym, ap, ◌∙◌, true, false, List, [], ◌∷◌, ◌++◌, append_assoc, append-nil, inl, inr, ℕ, ◌+◌, ◌-◌, ◌^◌, ◌≤◌, ℤ, length, length-append, arith}
use borrow.Author.Tests.{ltb-false}
use Rattle.integers.proofs.Tests.{true_is}
use Rattle.model.specs.Text.{Parsed, parsed, malformed, on, job_text}
use Rattle.model.specs.Program.{Piece, gave, failed, text_of, Ended, came_to_end, broke_off, went_on}
use Rattle.std.specs.ControlFlow.{break_value}
use Rattle.std.specs.Option.{is_some}
use Rattle.std.specs.declared.ops.ControlFlow.{ControlFlow}
use Rattle.std.specs.declared.ops.ControlFlow.TheVariants.{Continue, Break}
use Rattle.scanner.specs.Scanning.{State, state, step, fed, finished, taken, goes_on}
use Rattle.scanner.specs.declared.scan.Scan.TheVariants.{Between, Malformed}
use Rattle.std.proofs.lemmas.List.Sums.{fold-append}
use Rattle.scanner.proofs.Reading.{reads}
use Rattle.orthmuzi.specs.Hearing.{Gives, TookNext, Whole, HeardAll}

-- Pieces that all gave bytes, and their text.
data Came : List Piece → List ℕ → Type 0 where
  nothing : Came [] []
  more : {pieces : List Piece} {text : List ℕ} (b : ℕ) (bytes : List ℕ) → Came pieces text → Came (pieces ++ (gave (b ∷ bytes) ∷ [])) (text ++ (b ∷ bytes))

came_text : {ps : List Piece} {text : List ℕ} → Came ps text → (qs : List Piece) → text_of (ps ++ qs) ≡ on (text_of qs) (λ x. parsed (text ++ x))
unfolding text_of
came_text nothing qs = go (text_of qs)
  where
    go : (p : Parsed (List ℕ)) → p ≡ on p (λ x. parsed x)
    go (parsed x) = refl
    go malformed = refl
came_text (more {pieces = ps} {text = text} b bytes c) qs =
    ap text_of (append_assoc ps (gave (b ∷ bytes) ∷ []) qs) ∙ came_text c (gave (b ∷ bytes) ∷ qs) ∙ go (text_of qs)
  where
    go : (p : Parsed (List ℕ)) → on (on p (λ x. parsed ((b ∷ bytes) ++ x))) (λ x. parsed (text ++ x)) ≡ on p (λ x. parsed ((text ++ (b ∷ bytes)) ++ x))
    go (parsed x) = ap parsed (sym (append_assoc text (b ∷ bytes) x))
    go malformed = refl

came_ended : {ps : List Piece} {text : List ℕ} → Came ps text → {qs : List Piece} → Ended qs → Ended (ps ++ qs)
came_ended nothing e = e
came_ended (more {pieces = ps} b bytes c) {qs} e =
    rw (append_assoc ps (gave (b ∷ bytes) ∷ []) qs) (came_ended c (went_on e))

-- ---- bytes that are known to be left

-- A text that is not known to its end.
whole_never : (before : Option (List ℕ)) (pieces : List Piece) → text_of pieces ≡ malformed → Whole before pieces
whole_never None pieces e = tt
whole_never (Some xs) pieces e = λ text f. grind (arith, e, f)

-- All of it was consumed.
whole_end : (before after : Option (List ℕ)) (pieces : List Piece) (text : List ℕ) → Consumes before after text → IsAtEnd after → text_of pieces ≡ parsed text → Whole before pieces
whole_end before after pieces text c a e =
    Consumes-whole before after text (λ bytes. (x : List ℕ) → text_of pieces ≡ parsed x → x ≡ bytes) c a (λ x f. cc)

-- ---- turns

-- After so many turns of the loop.
pub record Going (before after : Option (List ℕ)) (s : State) (turns : ℕ) : Type 0 where
  fresh : List ℤ
  long : 2198 ≤ length fresh
  pieces : List Piece
  text : List ℕ
  came : Came pieces text
  many : length pieces ≡ turns
  left : Consumes before after text
  is : s ≡ fed (state (Between 0) fresh) text

pub going_start : (before : Option (List ℕ)) {fresh : List ℤ} {s : State} → 2198 ≤ length fresh → s ≡ state (Between 0) fresh → Going before before s 0
going_start before {fresh} l e =
    record { fresh = fresh; long = l; pieces = []; text = []; came = nothing; many = refl; left = Consumes-nil before; is = e }

module _ {before after : Option (List ℕ)} {s : State} {turns : ℕ} (g : Going before after s turns) where
  -- All turns are used up.
  pub going_over : 2 ^ 64 - 1 ≤ turns → HeardAll before (state Malformed s.table)
  unfolding text_of
  going_over e =
      let never : text_of g.pieces ≡ malformed = ap text_of (sym (append-nil g.pieces)) ∙ came_text g.came [] in
      record {
        heard =
            record {
              pieces = g.pieces;
              all = inr (omega (arith, g.many));
              says = ap (λ (p : Parsed (List ℕ)). on p job_text) (sym never);
            };
        whole = whole_never before g.pieces never;
      }

  module _ (later : Option (List ℕ)) {s' : State} where
    further : (p : Piece) → goes_on p ≡ true → Gives after later p → s' ≡ taken s p → Going before later s' (turns + 1)
    further failed m v e = absurd (true_is m)
    further (gave []) m v e = absurd (true_is m)
    further (gave (b ∷ bytes)) m v e =
        record {
          fresh = g.fresh;
          long = g.long;
          pieces = g.pieces ++ (gave (b ∷ bytes) ∷ []);
          text = g.text ++ (b ∷ bytes);
          came = more b bytes g.came;
          many = omega (arith, g.many, length-append g.pieces (gave (b ∷ bytes) ∷ []));
          left = Consumes-trans before after later g.text (b ∷ bytes) g.left v.0;
          is = e ∙ ap (λ (x : State). fed x (b ∷ bytes)) g.is ∙ sym (fold-append step (state (Between 0) g.fresh) g.text (b ∷ bytes));
        }

    pub going_on : (r : ControlFlow (Unit {0}) (Unit {0})) → is_some (break_value r) ≡ false → TookNext after later s r s' → Going before later s' (turns + 1)
    going_on (Continue _) m k = further k.took.piece (sym k.took.more) k.gives k.took.scan
    going_on (Break _) m k = absurd (true_is (sym m))

    last : (p : Piece) → goes_on p ≡ false → Gives after later p → s' ≡ taken s p → HeardAll before s'
    unfolding text_of
    last failed m v e =
        let never : text_of (g.pieces ++ (failed ∷ [])) ≡ malformed = came_text g.came (failed ∷ []) in
        record {
          heard =
              record {
                pieces = g.pieces ++ (failed ∷ []);
                all = inl (came_ended g.came broke_off);
                says = ap finished e ∙ ap (λ (p : Parsed (List ℕ)). on p job_text) (sym never);
              };
          whole = whole_never before (g.pieces ++ (failed ∷ [])) never;
        }
    last (gave []) m v e =
        let ends : text_of (g.pieces ++ (gave [] ∷ [])) ≡ parsed (g.text ++ []) = came_text g.came (gave [] ∷ []) in
        record {
          heard =
              record {
                pieces = g.pieces ++ (gave [] ∷ []);
                all = inl (came_ended g.came came_to_end);
                says =
                    ap finished (e ∙ g.is)
                    ∙ reads g.fresh g.text g.long
                    ∙ ap job_text (sym (append-nil g.text))
                    ∙ ap (λ (p : Parsed (List ℕ)). on p job_text) (sym ends);
              };
          whole = whole_end before later (g.pieces ++ (gave [] ∷ [])) (g.text ++ []) (Consumes-trans before after later g.text [] g.left v.0) (v.1 refl) ends;
        }
    last (gave (b ∷ bytes)) m v e = absurd (omega (arith, ltb-false 0 (length (b ∷ bytes)) m))

    pub going_end : (r : ControlFlow (Unit {0}) (Unit {0})) → is_some (break_value r) ≡ true → TookNext after later s r s' → HeardAll before s'
    going_end (Continue _) m k = absurd (true_is m)
    going_end (Break _) m k = last k.took.piece (sym k.took.more) k.gives k.took.scan
