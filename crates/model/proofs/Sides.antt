-- What a rule sees: the mirror turns bounds, windows and signs, and twice is nothing; windows seen in a view stand to one another as those that they show. So what is proved of views is proved of rules 3 to 14.
-- Assumes nothing.
use mathlib.Core.Path.{◌≡◌, refl, sym, subst}
use mathlib.Core.Bool.{Bool, true, false, cond}
use Prim.Native.Nat.{ℕ, ◌<◌}
use lib.Dec.{T}
use lib.IntN.{ℤ, neg_ℤ, neg_ℤ-neg_ℤ, pos}
use lib.Signed.{le_z, ◌≤ℤ◌, ◌<ℤ◌}
use Rattle.integers.proofs.Linear.{ints, neg_law}
use Rattle.integers.proofs.Tests.{same_test}
use Rattle.model.specs.Job.{End, t_min, t_max, h_min, h_max, meets, Windows, Schedule, value, Inside, produces, consumes}
use Rattle.model.specs.View.{side_value, side_end, side, shown, look}
use Rattle.model.proofs.Levels.{Signed}

-- ---- tests turn

pub neg_le : (a b : ℤ) → le_z (neg_ℤ a) (neg_ℤ b) ≡ le_z b a
neg_le a b = same_test (le_z (neg_ℤ a) (neg_ℤ b)) (le_z b a) (λ t. omega (ints, neg_law a, neg_law b)) (λ t. omega (ints, neg_law a, neg_law b))

pub neg_produces : (h : ℤ) → produces (neg_ℤ h) ≡ consumes h
neg_produces h = same_test (produces (neg_ℤ h)) (consumes h) (λ t. omega (ints, neg_law h)) (λ t. omega (ints, neg_law h))

pub neg_consumes : (h : ℤ) → consumes (neg_ℤ h) ≡ produces h
neg_consumes h = same_test (consumes (neg_ℤ h)) (produces h) (λ t. omega (ints, neg_law h)) (λ t. omega (ints, neg_law h))

-- ---- ends and values

pub side_value_twice : (m : Bool) (k : End) (v : ℤ) → side_value m k (side_value m k v) ≡ v
side_value_twice false k v = refl
side_value_twice true t_min v = refl
side_value_twice true t_max v = refl
side_value_twice true h_min v = neg_ℤ-neg_ℤ v
side_value_twice true h_max v = neg_ℤ-neg_ℤ v

pub side_meets : (m : Bool) (k : End) (v x : ℤ) → meets k (side_value m k v) (side_value m k x) ≡ meets (side_end m k) v x
side_meets false k v x = refl
side_meets true t_min v x = refl
side_meets true t_max v x = refl
side_meets true h_min v x = neg_le v x
side_meets true h_max v x = neg_le x v

-- ---- windows

pub side_inside : (m : Bool) {n : ℕ} {W x : Windows} → Inside n W x → Inside n (side m W) (side m x)
side_inside m {n} {W} {x} i =
    record { inside = λ y l k. subst T (sym (side_meets m k (W y (side_end m k)) (x y (side_end m k)))) (i.inside y l (side_end m k)) }

pub side_times : (m : Bool) (n : ℕ) (W : Windows) → ((y : ℕ) → y < n → W y t_min ≤ℤ W y t_max) → (y : ℕ) → y < n → side m W y t_min ≤ℤ side m W y t_max
side_times false n W h = h
side_times true n W h = h

pub side_heights : (m : Bool) (n : ℕ) (W : Windows) → ((y : ℕ) → y < n → W y h_min ≤ℤ W y h_max) → (y : ℕ) → y < n → side m W y h_min ≤ℤ side m W y h_max
side_heights false n W h = h
side_heights true n W h = λ y l. let a = h y l in omega (ints, neg_law (W y h_min), neg_law (W y h_max))

-- ---- signs

pub side_signed : (m : Bool) {n : ℕ} {W : Windows} → Signed n W → Signed n (side m W)
side_signed false s = s
side_signed true {n} {W} s =
    record {
      producers = λ y l t. let a = s.consumers y l (subst T (neg_produces (W y h_min)) t) in omega (ints, neg_law (W y h_max));
      consumers = λ y l t. let a = s.producers y l (subst T (neg_consumes (W y h_max)) t) in omega (ints, neg_law (W y h_min));
    }

-- ---- another cage's events shown as neutral

pub shown_meets : (b : Bool) (k : End) (v x : ℤ) → T (meets k v x) → T (meets k (shown b k v) (shown b k x))
shown_meets b t_min v x t = t
shown_meets b t_max v x t = t
shown_meets true h_min v x t = t
shown_meets true h_max v x t = t
shown_meets false h_min v x t = tt
shown_meets false h_max v x t = tt

-- Is it an amount's end?
abbrev pub amount : End → Bool
amount t_min = false
amount t_max = false
amount h_min = true
amount h_max = true

-- What is shown of an end is the end, unless it is an amount of another cage.
pub shown_is : (b : Bool) (k : End) (v : ℤ) → (T (amount k) → T b) → shown b k v ≡ v
shown_is b t_min v f = refl
shown_is b t_max v f = refl
shown_is true h_min v f = refl
shown_is true h_max v f = refl
shown_is false h_min v f = absurd (f tt)
shown_is false h_max v f = absurd (f tt)

-- ---- what a rule sees

-- The windows seen in a view: inside, filled and signed as those that they show.
module _ (own : ℕ → Bool) (m : Bool) where
  pub look_inside : {n : ℕ} {W x : Windows} → Inside n W x → Inside n (look own m W) (look own m x)
  look_inside {n} {W} {x} i = record { inside = λ y l k. shown_meets (own y) k (side m W y k) (side m x y k) ((side_inside m i).inside y l k) }

  pub look_times : (n : ℕ) (W : Windows) → ((y : ℕ) → y < n → W y t_min ≤ℤ W y t_max) → (y : ℕ) → y < n → look own m W y t_min ≤ℤ look own m W y t_max
  look_times n W h = side_times m n W h

  pub look_heights : (n : ℕ) (W : Windows) → ((y : ℕ) → y < n → W y h_min ≤ℤ W y h_max) → (y : ℕ) → y < n → look own m W y h_min ≤ℤ look own m W y h_max
  look_heights n W h y l = go (own y) (side_heights m n W h y l)
    where
      go : (b : Bool) → side m W y h_min ≤ℤ side m W y h_max → cond b (side m W y h_min) (pos 0) ≤ℤ cond b (side m W y h_max) (pos 0)
      go true o = o
      go false o = omega ints

  pub look_signed : {n : ℕ} {W : Windows} → Signed n W → Signed n (look own m W)
  look_signed {n} {W} s =
      record {
        producers = λ y l. made (own y) (side m W y h_max) (side m W y h_min) ((side_signed m s).producers y l);
        consumers = λ y l. used (own y) (side m W y h_max) (side m W y h_min) ((side_signed m s).consumers y l);
      }
    where
      made : (b : Bool) (high low : ℤ) → (T (produces high) → pos 0 <ℤ low) → T (produces (cond b high (pos 0))) → pos 0 <ℤ cond b low (pos 0)
      made true high low f t = f t
      made false high low f t = absurd t

      used : (b : Bool) (high low : ℤ) → (T (consumes low) → high <ℤ pos 0) → T (consumes (cond b low (pos 0))) → cond b high (pos 0) <ℤ pos 0
      used true high low f t = f t
      used false high low f t = absurd t

-- A schedule is windows whose ends coincide; so it is seen.
pub record Point (x : Windows) : Type 0 where
  pub one_time : (y : ℕ) → x y t_max ≡ x y t_min
  pub one_height : (y : ℕ) → x y h_min ≡ x y h_max

pub look_point : (own : ℕ → Bool) (m : Bool) (p : Schedule) → Point (look own m (value p))
look_point own false p = record { one_time = λ y. refl; one_height = λ y. refl }
look_point own true p = record { one_time = λ y. refl; one_height = λ y. refl }
