-- Document 01, "Tables": a slip (explanation) and a list of slips (log) with its trailer as words, written and read; the slip of a rule.
use Rattle.std.specs.Prelude.{Bool, true, false, List, [], ◌∷◌, ◌++◌, ℕ, zero, suc, ◌+◌, ◌*◌, ℤ, pos, nat_abs, get_or, length}
use Rattle.model.specs.Job.{End, t_min, t_max, h_min, h_max, word, Windows, Job, events}
use Rattle.model.specs.Rules.{Rule, rule, own_end, Effect, idle, narrows, fails}
use Rattle.model.specs.Facts.{quotes, quoted}

-- ---- kinds

-- Kinds: 0 conflict (value 0), 1 t ≥, 2 t ≤, 3 h ≥, 4 h ≤.
abbrev pub number : End → ℕ
number k = word k + 1

abbrev pub end : ℕ → End
end zero = t_min
end (suc zero) = t_min
end (suc (suc zero)) = t_max
end (suc (suc (suc zero))) = h_min
end (suc (suc (suc (suc n)))) = h_max

-- ---- a slip

-- A fact: event, kind, value.
pub record Premise : Type 0 where
  pub event : ℤ
  pub kind : ℤ
  pub value : ℤ

-- A slip: rule, subject, target event, conclusion kind, value, and its facts.
pub record Explanation : Type 0 where
  pub rule : ℤ
  pub subject : ℤ
  pub target : ℤ
  pub kind : ℤ
  pub value : ℤ
  pub premises : List Premise

-- The event and the end that a fact is about; the rule, subject and target of a slip.
abbrev pub premise_event : Premise → ℕ
premise_event f = nat_abs f.event

abbrev pub premise_end : Premise → End
premise_end f = end (nat_abs f.kind)

abbrev pub rule_of : Explanation → Rule
rule_of x = rule (nat_abs x.rule)

abbrev pub subject_of : Explanation → ℕ
subject_of x = nat_abs x.subject

abbrev pub target_of : Explanation → ℕ
target_of x = nat_abs x.target

-- ---- as words

unfoldable pub premise_words : List Premise → List ℤ
premise_words [] = []
premise_words (f ∷ fs) = f.event ∷ f.kind ∷ f.value ∷ premise_words fs

-- The slip's own length: 7 + 3m.
abbrev pub slip_length : ℕ → ℕ
slip_length m = 7 + 3 * m

unfoldable pub slip_words : Explanation → List ℤ
slip_words x =
    x.rule
    ∷ x.subject
    ∷ x.target
    ∷ x.kind
    ∷ x.value
    ∷ pos (length x.premises)
    ∷ premise_words x.premises ++ (pos (slip_length (length x.premises)) ∷ [])

-- The slips' words in turn.
unfoldable pub log_words : List Explanation → List ℤ
log_words [] = []
log_words (x ∷ xs) = slip_words x ++ log_words xs

-- Where the last slip begins, the first at word p; last if there is none.
unfoldable pub last_begins : ℕ → ℕ → List Explanation → ℕ
last_begins p last [] = last
last_begins p last (x ∷ xs) = last_begins (p + length (slip_words x)) p xs

-- The trailer: number of slips, word place where the last slip begins (0 if none), mark 4207.
abbrev pub trailer : ℕ → ℕ → List ℤ
trailer slips last = pos slips ∷ pos last ∷ pos 4207 ∷ []

-- ---- read from words

-- Word i of a list, 0 past its end.
abbrev pub at : List ℤ → ℕ → ℤ
at list i = get_or list i (pos 0)

-- m facts from word i on.
unfoldable pub premises_at : List ℤ → ℕ → ℕ → List Premise
premises_at list i zero = []
premises_at list i (suc m) =
    record { event = at list i; kind = at list (i + 1); value = at list (i + 2) } ∷ premises_at list (i + 3) m

-- The number of facts of the slip at word i, and its length.
abbrev pub premise_count : List ℤ → ℕ → ℕ
premise_count list i = nat_abs (at list (i + 5))

-- The slip at word i.
unfoldable pub slip_at : List ℤ → ℕ → Explanation
slip_at list i =
    record {
      rule = at list i;
      subject = at list (i + 1);
      target = at list (i + 2);
      kind = at list (i + 3);
      value = at list (i + 4);
      premises = premises_at list (i + 6) (premise_count list i);
    }

-- ---- of a rule

-- The facts that are quoted, by event, then by kind, each pair once.
abbrev pub quote : Bool → ℕ → End → ℤ → List Premise
quote true y k v = record { event = pos y; kind = pos (number k); value = v } ∷ []
quote false y k v = []

unfoldable pub premise_list : ℕ → (ℕ → End → Bool) → (ℕ → End → ℤ) → List Premise
premise_list zero c v = []
premise_list (suc y) c v =
    premise_list y c v
    ++ (quote (c y t_min) y t_min (v y t_min)
    ++ (quote (c y t_max) y t_max (v y t_max)
    ++ (quote (c y h_min) y h_min (v y h_min) ++ quote (c y h_max) y h_max (v y h_max))))

-- The slip of rule r with subject e and target y; its kind and value are those of the effect, kind 0 with value 0 for a conflict.
abbrev pub concluded_kind : Rule → Effect → ℕ
concluded_kind r idle = 0
concluded_kind r (narrows v) = number (own_end r)
concluded_kind r fails = 0

abbrev pub concluded_value : Effect → ℤ
concluded_value idle = pos 0
concluded_value (narrows v) = v
concluded_value fails = pos 0

abbrev pub explanation : ℕ → Job → Windows → ℕ → ℕ → Effect → Explanation
explanation r j W e y x =
    record {
      rule = pos r;
      subject = pos e;
      target = pos y;
      kind = pos (concluded_kind (rule r) x);
      value = concluded_value x;
      premises = premise_list (events j) (quotes (rule r) j W e y x) (quoted (rule r) j W e y x);
    }
