-- Document 01, "The program reads decimal whole numbers, minus allowed, between blanks or line ends": what a text, a list of bytes, says.
-- Its numbers are a job, part by part in their order. Text otherwise formed, a number outside 32 bits, a count out of range, a number too few or too many: malformed.
use Rattle.std.specs.Prelude.{Bool, true, false, cond, ◌&&◌, ◌||◌, List, [], ◌∷◌, ◌++◌, ℕ, zero, suc, ◌+◌, ◌*◌, ◌-◌, eqb, leb, ℤ, pos, negsuc, neg_ℤ, nat_abs, length, take, drop}
use Prim.Native.Char.{code}
use Prim.Native.String.{String}
use Rattle.model.specs.Job.{Job}
use Rattle.model.specs.Questions.{in_range}

-- What a text, or a part of one, says.
pub data Parsed (A : Type 0) : Type 0 where
  parsed : A → Parsed A
  malformed : Parsed A

-- What it says is handed on.
abbrev pub on : {A B : Type 0} → Parsed A → (A → Parsed B) → Parsed B
on (parsed a) f = f a
on malformed f = malformed

-- ---- characters

-- A quoted text as its bytes, one for each character of ASCII.
abbrev pub bytes : String → List ℕ
bytes String.[] = []
bytes (String.◌∷◌ c s) = code c ∷ bytes s

-- Blank, tab, line feed, carriage return.
abbrev pub blank : ℕ → Bool
blank b = eqb b 32 || eqb b 9 || eqb b 10 || eqb b 13

-- '-'.
abbrev pub minus : ℕ → Bool
minus b = eqb b 45

-- '0' to '9'.
abbrev pub digit : ℕ → Bool
digit b = leb 48 b && leb b 57

-- ---- numbers

-- The value of digits that follow digits of the value v.
unfoldable pub digits_value : ℕ → List ℕ → Parsed ℕ
digits_value v [] = parsed v
digits_value v (b ∷ w) = cond (digit b) (digits_value (10 * v + (b - 48)) w) malformed

abbrev pub signed : Bool → ℕ → ℤ
signed true v = neg_ℤ (pos v)
signed false v = pos v

-- In 32 bits: −2³¹ .. 2³¹ − 1.
abbrev pub fits_word : ℤ → Bool
fits_word z = in_range (negsuc 2147483647) (pos 2147483647) z

abbrev pub one_number : ℤ → Parsed (List ℤ)
one_number z = cond (fits_word z) (parsed (z ∷ [])) malformed

-- One or more digits, behind a '-' (true) or not. Leading zeros and "-0" are taken.
abbrev pub decimal : Bool → List ℕ → Parsed (List ℤ)
decimal negative [] = malformed
decimal negative (b ∷ w) = on (digits_value 0 (b ∷ w)) (λ v. one_number (signed negative v))

-- What stands between two blanks: nothing, which is no number, or one number.
abbrev pub token : List ℕ → Parsed (List ℤ)
token [] = parsed []
token (b ∷ w) = cond (minus b) (decimal true w) (decimal false (b ∷ w))

-- The numbers of a text that goes on behind w, the beginning of a token.
unfoldable pub numbers_behind : List ℕ → List ℕ → Parsed (List ℤ)
numbers_behind w [] = token w
numbers_behind w (b ∷ text) =
    cond (blank b)
    (on (token w) (λ xs. on (numbers_behind [] text) (λ ys. parsed (xs ++ ys))))
    (numbers_behind (w ++ (b ∷ [])) text)

-- ---- the job

-- A part of a job takes numbers off the front, and leaves the rest.
abbrev pub Part : Type 0 → Type 0
Part A = List ℤ → Parsed (A × List ℤ)

-- A part, and what goes on with it and the rest.
abbrev pub ◌>>=◌ : {A B : Type 0} → Part A → (A → List ℤ → Parsed B) → List ℤ → Parsed B
◌>>=◌ p f ns = on (p ns) (λ x. f x.0 x.1)

abbrev pub next_number : Part ℤ
next_number [] = malformed
next_number (z ∷ ns) = parsed (z, ns)

-- A number in least..most.
abbrev pub count_in : ℕ → ℕ → Part ℕ
count_in least most [] = malformed
count_in least most (z ∷ ns) = cond (in_range (pos least) (pos most) z) (parsed (nat_abs z, ns)) malformed

abbrev pub next_words : ℕ → Part (List ℤ)
next_words k ns = cond (leb k (length ns)) (parsed (take k ns, drop k ns)) malformed

-- The round limit, if one more number is left, 40 if none is; then no number is left.
abbrev pub limit_at_end : {A : Type 0} → A → List ℤ → Parsed (A × ℤ)
limit_at_end a [] = parsed (a, pos 40)
limit_at_end a (z ∷ []) = parsed (a, z)
limit_at_end a (z ∷ (w ∷ ns)) = malformed

-- A part that takes no number.
abbrev pub give : {A : Type 0} → A → Part A
give a ns = parsed (a, ns)

-- A set: its totals, the number of its members in 0..64, the members.
abbrev pub next_set : Part (List ℤ)
next_set = do
  least ← next_number
  most ← next_number
  k ← count_in 0 64
  members ← next_words k
  give (least ∷ most ∷ pos k ∷ members)

unfoldable pub next_sets : ℕ → Part (List ℤ)
next_sets zero = give []
next_sets (suc k) = do
  set ← next_set
  others ← next_sets k
  give (set ++ others)

-- The job that numbers say: H, the number of cages and their words, n m, then n events, m lags, the number of sets and their words; and its round limit.
unfoldable pub job_of : List ℤ → Parsed (Job × ℤ)
job_of = do
  h ← next_number
  c ← count_in 1 8
  cages ← next_words (4 * c)
  n ← count_in 0 64
  m ← count_in 0 256
  windows ← next_words (5 * n)
  lags ← next_words (3 * m)
  s ← count_in 0 16
  sets ← next_sets s
  limit_at_end (record { horizon = h; cage_table = cages; window_table = windows; lag_table = lags; set_table = sets })

-- The job that a text says, and its round limit.
unfoldable pub job_text : List ℕ → Parsed (Job × ℤ)
job_text text = on (numbers_behind [] text) job_of
