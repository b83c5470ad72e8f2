-- What holds of a job that its own questions let pass, and of its windows throughout a call: what the theory and the code's contracts both speak of.
use Rattle.std.specs.Prelude.{◌≡◌, List, ℕ, suc, ◌≤◌, ◌<◌, pos, nat_abs, ℤ, length, ◌≤ℤ◌}
use Rattle.integers.specs.Range.{Within}
use Rattle.model.specs.Job.{End, t_min, t_max, h_min, h_max, Windows, Reservoir, Job, events, lags, lag_word, Inside, widest, cages, cage, cage_word, cage_of, sets, set_begin, member_word, set_word, member_count}

-- A cage that question 2 lets pass.
pub record SaneCage (c : Reservoir) : Type 0 where
  pub min_range : Within c.min_level 1000000
  pub max_range : Within c.max_level 1000000
  pub initial_range : Within c.initial 1000000

-- Lag g of a table's words, which questions 8 and 10 let pass in a job of n events.
pub record SaneLag (n : ℕ) (ws : List ℤ) (g : ℕ) : Type 0 where
  pub sign_a : pos 0 ≤ℤ lag_word ws g 0
  pub sign_b : pos 0 ≤ℤ lag_word ws g 1
  pub real_a : nat_abs (lag_word ws g 0) < n
  pub real_b : nat_abs (lag_word ws g 1) < n
  pub gap_range : Within (lag_word ws g 2) 20000

-- Set g of a table's words, which questions 31 to 33 let pass in a job of n events.
pub record SaneSet (n : ℕ) (ws : List ℤ) (g : ℕ) : Type 0 where
  pub inside : set_begin ws (suc g) ≤ length ws
  pub some_member : 1 ≤ member_count ws g
  pub member_sign : (i : ℕ) → i < member_count ws g → pos 0 ≤ℤ member_word ws g i
  pub member_real : (i : ℕ) → i < member_count ws g → nat_abs (member_word ws g i) < n
  pub member_distinct : (i k : ℕ) → i < member_count ws g → k < i → nat_abs (member_word ws g k) ≡ nat_abs (member_word ws g i) → ⊥
  pub least_range : Within (set_word ws g 0) 639936
  pub most_range : Within (set_word ws g 1) 639936

-- All lags of a job.
abbrev pub SaneLags : Job → Type 0
SaneLags j = (g : ℕ) → g < lags j → SaneLag (events j) j.lag_table g

-- A job whose own questions passed, but for what 5 and 6 say of its windows.
pub record Sane (j : Job) : Type 0 where
  pub horizon_low : pos 0 ≤ℤ j.horizon
  pub horizon_high : j.horizon ≤ℤ pos 20000
  pub some_cage : 1 ≤ cages j
  pub few_cages : cages j ≤ 8
  pub cage : (c : ℕ) → c < cages j → SaneCage (cage j c)
  pub cage_sign : (y : ℕ) → y < events j → pos 0 ≤ℤ cage_word j.window_table y
  pub cage_real : (y : ℕ) → y < events j → cage_of j y < cages j
  pub few_events : events j ≤ 64
  pub few_lags : lags j ≤ 256
  pub lag : SaneLags j
  pub few_sets : sets j ≤ 16
  pub set_sane : (g : ℕ) → g < sets j → SaneSet (events j) j.set_table g

-- The windows W stand in a call of the job: inside the widest ones, none empty. So signs are kept.
pub record Standing (j : Job) (W : Windows) : Type 0 where
  pub within : Inside (events j) (widest j) W
  pub times : (y : ℕ) → y < events j → W y t_min ≤ℤ W y t_max
  pub heights : (y : ℕ) → y < events j → W y h_min ≤ℤ W y h_max

-- How far from 0 an end of standing windows is at most: times are in 0..20,000, amounts in −9,999..9,999.
abbrev pub span : End → ℕ
span t_min = 20000
span t_max = 20000
span h_min = 9999
span h_max = 9999

-- The windows of n events, at most 64, with their ends in these ranges.
pub record Ranged (n : ℕ) (W : Windows) : Type 0 where
  pub few : n ≤ 64
  pub range : (y : ℕ) → y < n → (k : End) → Within (W y k) (span k)
