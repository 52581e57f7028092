-- Request 12/13, in its own words and as types over the definitions that the calls' contracts cite. `proofs/Requirements` proves them.
use Rattle.std.specs.Prelude.{◌≡◌, Bool, true, false, cond, List, ◌⊎◌, ◌↔◌, ◌≢◌, ℕ, zero, suc, ◌+◌, ◌-◌, ◌*◌, ◌%◌, ◌^◌, ◌≤◌, ◌<◌, eqb, length, take, get_or}
use Rattle.loop_player.specs.Player.{total, refused_frame, frame_answer, refused_ticks, ticks_answer}

-- ---- "Refusals: 37, no frame, above 256 frames, a duration 0 or a period number 0; given before all else, with frame or ticks 0 and not ended."

pub record KnownPeriod (num den : ℕ) : Type 0 where
  pub numerator : 0 < num
  pub denominator : 0 < den

pub record Playable (num den : ℕ) (ds : List ℕ) : Type 0 where
  pub period : KnownPeriod num den
  pub some : 0 < length ds
  pub few : length ds ≤ 256
  pub durations : (k : ℕ) → k < length ds → 0 < get_or ds k 0

pub record Refusals : Type 0 where
  pub exactly : (loops num den : ℕ) (ds : List ℕ) (n : ℕ) → ((frame_answer loops num den ds n).status ≡ 0) ↔ Playable num den ds
  pub refused : (loops num den : ℕ) (ds : List ℕ) (n : ℕ) → (frame_answer loops num den ds n).status ≢ 0 → frame_answer loops num den ds n ≡ refused_frame
  pub ticks-exactly : (ms num den : ℕ) → ((ticks_answer ms num den).status ≡ 0) ↔ KnownPeriod num den
  pub ticks-refused : (ms num den : ℕ) → (ticks_answer ms num den).status ≢ 0 → ticks_answer ms num den ≡ refused_ticks

-- ---- a loop that is played. T is `total ds`

module _ (loops num den : ℕ) (ds : List ℕ) where
  abbrev pub shown : (tick : ℕ) → ℕ
  shown n = (frame_answer loops num den ds n).frame

  abbrev pub ended : (tick : ℕ) → Bool
  ended n = (frame_answer loops num den ds n).ended

-- a round that is played, from 0: any, where the loop goes on for ever
abbrev pub Played : (loops round : ℕ) → Type 0
Played loops j = (loops ≡ 0) ⊎ (j < loops)

-- the span of frame k in a round holds r
abbrev pub Holds : List ℕ → (k r : ℕ) → Type 0
Holds ds k r = (total (take k ds) ≤ r) × (r < total (take (suc k) ds))

-- "With loop count L above 0 and total T, from tick L·T on the last frame stays and "ended" is said."
pub record Ended (loops num den : ℕ) (ds : List ℕ) : Type 0 where
  pub from : (n : ℕ) → 0 < loops → loops * total ds ≤ n → (shown loops num den ds n ≡ length ds - 1) × (ended loops num den ds n ≡ true)
  -- and not before, nor where the loop count is 0
  pub not-before : (n : ℕ) → n < loops * total ds → ended loops num den ds n ≡ false
  pub never : (n : ℕ) → loops ≡ 0 → ended loops num den ds n ≡ false
  -- the tick before the end shows the last frame already, which then stays
  pub stays : 0 < loops → shown loops num den ds (loops * total ds - 1) ≡ length ds - 1

-- "Otherwise the frame whose span holds n modulo T is shown."
pub record Spans (loops num den : ℕ) (ds : List ℕ) : Type 0 where
  pub holds : (n : ℕ) → ended loops num den ds n ≡ false → Holds ds (shown loops num den ds n) (n % total ds)
  -- no other frame's span does: a tick shows one frame
  pub only : (n k : ℕ) → ended loops num den ds n ≡ false → Holds ds k (n % total ds) → k ≡ shown loops num den ds n
  -- and one that is there
  pub there : (n : ℕ) → shown loops num den ds n < length ds

-- how many t below n pass a test
unfoldable pub count_below : ℕ → (ℕ → Bool) → ℕ
count_below zero p = 0
count_below (suc n) p = count_below n p + cond (p n) 1 0

-- "each frame's ticks in one round number exactly its duration"; and "tick n + T .. not ended, shows the frame of tick n", within 64 bits or not
pub record Rounds (loops num den : ℕ) (ds : List ℕ) : Type 0 where
  pub exactly : (j : ℕ) → Played loops j → (k : ℕ) → count_below (total ds) (λ t. eqb (shown loops num den ds (j * total ds + t)) k) ≡ get_or ds k 0
  pub later : (n : ℕ) → ended loops num den ds (n + total ds) ≡ false → shown loops num den ds (n + total ds) ≡ shown loops num den ds n
  -- the frames of a round come in order: 0 first, then the same or the next, and the last at its last tick
  pub first : (j : ℕ) → Played loops j → shown loops num den ds (j * total ds) ≡ 0
  pub next : (j t : ℕ) → Played loops j → suc t < total ds
      → let n = j * total ds + t in
      (shown loops num den ds (suc n) ≡ shown loops num den ds n) ⊎ (shown loops num den ds (suc n) ≡ suc (shown loops num den ds n))
  pub last : (j : ℕ) → Played loops j → shown loops num den ds (j * total ds + (total ds - 1)) ≡ length ds - 1

pub record Loops : Type 0 where
  pub ends : (loops num den : ℕ) (ds : List ℕ) → Playable num den ds → Ended loops num den ds
  pub spans : (loops num den : ℕ) (ds : List ℕ) → Playable num den ds → Spans loops num den ds
  pub rounds : (loops num den : ℕ) (ds : List ℕ) → Playable num den ds → Rounds loops num den ds

-- ---- "Milliseconds become ticks as the whole part of ms·den/(1000·num), ms below 2^32."
pub record Times : Type 0 where
  pub whole : (ms num den : ℕ) → KnownPeriod num den
      → let n = (ticks_answer ms num den).ticks in
      (n * (1000 * num) ≤ ms * den) × (ms * den < suc n * (1000 * num))
  -- later, no fewer ticks
  pub monotone : (a b num den : ℕ) → a ≤ b → (ticks_answer a num den).ticks ≤ (ticks_answer b num den).ticks

-- ---- no sum or product wraps
pub record Fits : Type 0 where
  pub round : (ds : List ℕ) → length ds ≤ 256 → ((k : ℕ) → get_or ds k 0 < 2 ^ 16) → total ds < 2 ^ 24
  pub end : (loops : ℕ) (ds : List ℕ) → loops < 2 ^ 16 → total ds < 2 ^ 24 → loops * total ds < 2 ^ 40
  pub time : (ms den : ℕ) → ms < 2 ^ 32 → den < 2 ^ 16 → ms * den < 2 ^ 48
