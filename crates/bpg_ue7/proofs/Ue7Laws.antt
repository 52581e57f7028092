-- The laws of ue7(n), over n: the reader's equations, the round trip, that a number has one form only, and how long it is.
--
use mathlib.Core.Path.{◌≡◌, refl, sym, ap, ◌∙◌, subst}
use mathlib.Core.List.{List, [], ◌∷◌, ◌++◌, append_assoc}
use Prim.Native.Nat.{ℕ, zero, suc, ◌+◌, ◌-◌, ◌*◌, ◌/◌, ◌%◌, ◌^◌, ◌≤◌, ◌<◌}
use native.Mathlib.Nat.{add_assoc, add-zero, le_refl, zero-lt-suc, not-suc-le-zero}
use native.Mathlib.Decide.{ℕ_discrete}
use native.Mathlib.Omega.{arith}
use lib.Arith.{le-zero}
use lib.ListN.{length, get_or, length-append}
use borrow.Author.Tests.{lt-ltb, le-ltb, eq-eqb, ne_eqb}
use Rattle.bpg_codec.specs.Outcome.{ok, error, Decoded, decoded}
use Rattle.bpg_codec.specs.Lawful.{All, Byte, Found, Lawful}
use Rattle.bpg_codec.proofs.Select.{select-true, select-false}
use Rattle.bpg_codec.proofs.Outcome.{error-not-ok, ok-injective}
use Rattle.bpg_codec.proofs.Lists.{either_way}
use Rattle.bpg_codec.proofs.Tokens.{all_append}
use Rattle.bpg_ue7.specs.Ue7.{groups, ue7_bytes, ue7_rest, ue7_decode, ue7}

-- ---- the reader, byte by byte

module _ (n v p : ℕ) where
  pub rest_end : ue7_rest n v p [] ≡ error 2 p
  unfolding ue7_rest
  rest_end = refl

  module _ (b : ℕ) (l : List ℕ) where
    pub rest-large : 2 ^ n ≤ v * 128 + b % 128 → ue7_rest n v p (b ∷ l) ≡ error 8 p
    unfolding ue7_rest
    rest-large h = rw (le-ltb _ _ h)

    pub rest-last : v * 128 + b % 128 < 2 ^ n → b < 128 → ue7_rest n v p (b ∷ l) ≡ ok (decoded (v * 128 + b % 128) (p + 1) l)
    unfolding ue7_rest
    rest-last h k = rw (lt-ltb _ _ h) (select-true _ _ (lt-ltb _ _ k))

    pub rest_more : v * 128 + b % 128 < 2 ^ n → 128 ≤ b → ue7_rest n v p (b ∷ l) ≡ ue7_rest n (v * 128 + b % 128) (p + 1) l
    unfolding ue7_rest
    rest_more h k = rw (lt-ltb _ _ h) (select-false _ _ (le-ltb _ _ k))

module _ (n start : ℕ) where
  pub decode-end : ue7_decode n start [] ≡ error 2 start
  unfolding ue7_decode
  decode-end = refl

  pub decode-80 : (l : List ℕ) → get_or l 0 0 ≡ 128 → ue7_decode n start l ≡ error 7 start
  unfolding ue7_decode
  decode-80 [] e = absurd (omega arith)
  decode-80 (b ∷ l) e = rw (eq-eqb _ _ e)

  pub decode-rest : (l : List ℕ) → (get_or l 0 0 ≡ 128 → ⊥) → ue7_decode n start l ≡ ue7_rest n 0 start l
  unfolding ue7_decode ue7_rest
  decode-rest [] e = refl
  decode-rest (b ∷ l) e = rw (ne_eqb _ _ e)

-- ---- the groups: two equations and an induction, after which no proof looks at how many are enough

abbrev pub high : ℕ → List ℕ
high w = groups w w

enough : (j k w : ℕ) → w ≤ j → w ≤ k → groups j w ≡ groups k w
unfolding groups
enough zero zero w h g = refl
enough zero (suc k) zero h g = refl
enough zero (suc k) (suc w) h g = absurd (omega arith)
enough (suc j) zero zero h g = refl
enough (suc j) zero (suc w) h g = absurd (omega arith)
enough (suc j) (suc k) zero h g = refl
enough (suc j) (suc k) (suc w) h g =
    ap (λ (l : List ℕ). l ++ ((128 + suc w % 128) ∷ [])) (enough j k (suc w / 128) (omega arith) (omega arith))

pub high_zero : high 0 ≡ []
unfolding groups
high_zero = refl

pub high-more : (w : ℕ) → 0 < w → high w ≡ high (w / 128) ++ ((128 + w % 128) ∷ [])
unfolding groups
high-more zero h = absurd (omega arith)
high-more (suc w) h = ap (λ (l : List ℕ). l ++ ((128 + suc w % 128) ∷ [])) (enough w (suc w / 128) (suc w / 128) (omega arith) (le_refl _))

pub by-groups {ℓ} : (P : ℕ → Type ℓ) → P 0 → ((w : ℕ) → 0 < w → P (w / 128) → P w) → (w : ℕ) → P w
by-groups P z s w = go w w (le_refl w)
  where
    go : (k w : ℕ) → w ≤ k → P w
    go zero w h = subst P (sym (le-zero h)) z
    go (suc k) zero h = z
    go (suc k) (suc w) h = s (suc w) (zero-lt-suc w) (go k (suc w / 128) (omega arith))

pub bytes_high : (v : ℕ) → ue7_bytes v ≡ high (v / 128) ++ (v % 128 ∷ [])
unfolding ue7_bytes
bytes_high v = refl

-- one more byte below v's groups
high-next : (v b : ℕ) → 128 ≤ b → b < 256 → 0 < v * 128 + b % 128 → high (v * 128 + b % 128) ≡ high v ++ (b ∷ [])
high-next v b h k pos =
    let d : (v * 128 + b % 128) / 128 ≡ v = omega arith in
    let m : 128 + (v * 128 + b % 128) % 128 ≡ b = omega arith in
    high-more (v * 128 + b % 128) pos ∙ rw (d, m)

bytes_next : (v b : ℕ) → b < 128 → ue7_bytes (v * 128 + b % 128) ≡ high v ++ (b ∷ [])
bytes_next v b h =
    let d : (v * 128 + b % 128) / 128 ≡ v = omega arith in
    let m : (v * 128 + b % 128) % 128 ≡ b = omega arith in
    bytes_high (v * 128 + b % 128) ∙ rw (d, m)

-- ---- how long a number is

pub size-high : (w : ℕ) → 0 < w → length (high w) ≡ suc (length (high (w / 128)))
size-high w h = ap length (high-more w h) ∙ length-append (high (w / 128)) _ ∙ omega arith

pub size-bytes : (v : ℕ) → length (ue7_bytes v) ≡ suc (length (high (v / 128)))
size-bytes v = ap length (bytes_high v) ∙ length-append (high (v / 128)) _ ∙ omega arith

high-grows : (w : ℕ) → (v : ℕ) → v ≤ w → length (high v) ≤ length (high w)
high-grows = by-groups (λ (w : ℕ). (v : ℕ) → v ≤ w → length (high v) ≤ length (high w)) none more
  where
    none : (v : ℕ) → v ≤ 0 → length (high v) ≤ length (high 0)
    none v h = subst (λ (k : ℕ). length (high k) ≤ length (high 0)) (sym (le-zero h)) (le_refl _)

    more : (w : ℕ) → 0 < w → ((v : ℕ) → v ≤ w / 128 → length (high v) ≤ length (high (w / 128))) → (v : ℕ) → v ≤ w → length (high v) ≤ length (high w)
    more w k ih zero h = omega (arith, ap length high_zero)
    more w k ih (suc v) h = omega (arith, size-high w k, size-high (suc v) (zero-lt-suc v), ih (suc v / 128) (omega arith))

-- a larger number is not shorter
pub size-grows : (v w : ℕ) → v ≤ w → length (ue7_bytes v) ≤ length (ue7_bytes w)
size-grows v w h = omega (arith, size-bytes v, size-bytes w, high-grows (w / 128) (v / 128) (omega arith))

pub size-positive : (v : ℕ) → 0 < length (ue7_bytes v)
size-positive v = omega (arith, size-bytes v)

-- a number of 64 bits has at most ten bytes
pub size-most : (v : ℕ) → v < 2 ^ 64 → length (ue7_bytes v) ≤ 10
unfolding ue7_bytes groups
size-most v h = size-grows v (2 ^ 64 - 1) (omega arith)

-- ---- the bytes of a number are bytes

bytes-groups : (k w : ℕ) → All Byte (groups k w)
unfolding groups
bytes-groups zero w = tt
bytes-groups (suc k) zero = tt
bytes-groups (suc k) (suc w) = all_append Byte (groups k (suc w / 128)) _ (bytes-groups k (suc w / 128)) (omega arith, tt)

pub bytes-ue7 : (v : ℕ) → All Byte (ue7_bytes v)
unfolding ue7_bytes
bytes-ue7 v = all_append Byte (high (v / 128)) (v % 128 ∷ []) (bytes-groups (v / 128) (v / 128)) (omega arith, tt)

-- ---- reading what was written

module _ (n : ℕ) where
  abbrev Reads : ℕ → Type 0
  Reads w = w < 2 ^ n → (p : ℕ) (r : List ℕ) → ue7_rest n 0 p (high w ++ r) ≡ ue7_rest n w (p + length (high w)) r

  reads-zero : Reads 0
  reads-zero h p r = rw (high_zero, add-zero)

  reads_more : (w : ℕ) → 0 < w → Reads (w / 128) → Reads w
  reads_more w pos ih h p r =
      let b : ℕ = 128 + w % 128 in
      let z : w / 128 * 128 + b % 128 ≡ w = omega arith in
      rw (high-more w pos, append_assoc, ih (omega arith))
      (rest_more n (w / 128) (p + length (high (w / 128))) b r (omega arith) (omega arith) ∙ rw (z, length-append, add_assoc))

  rest-high : (w : ℕ) → Reads w
  rest-high = by-groups Reads reads-zero reads_more

-- no number begins with 0x80
leads : (w : ℕ) → (t : List ℕ) → 0 < w → 128 < get_or (high w ++ t) 0 0
leads = by-groups (λ (w : ℕ). (t : List ℕ) → 0 < w → 128 < get_or (high w ++ t) 0 0) (λ t h. absurd (not-suc-le-zero h)) more
  where
    more : (w : ℕ) → 0 < w → ((t : List ℕ) → 0 < w / 128 → 128 < get_or (high (w / 128) ++ t) 0 0) → (t : List ℕ) → 0 < w → 128 < get_or (high w ++ t) 0 0
    more w k ih t h =
        rw (high-more w k, append_assoc)
        (either_way 1 (w / 128) (λ g. ih _ g)
        (λ g. let z : w / 128 ≡ 0 = omega arith in subst (λ (u : ℕ). 128 < get_or (high u ++ ((128 + w % 128) ∷ t)) 0 0) (sym z) (rw high_zero (omega arith))))

first_byte : (v : ℕ) (r : List ℕ) → get_or (ue7_bytes v ++ r) 0 0 ≡ 128 → ⊥
first_byte v r e = by (v / 128) refl
  where
    by : (w : ℕ) → v / 128 ≡ w → ⊥
    by zero z = omega (arith, rw (bytes_high v, z, high_zero) at e)
    by (suc w) z = omega (arith, rw (bytes_high v, z, append_assoc) at e, leads (suc w) (v % 128 ∷ r) (zero-lt-suc w))

decodes : (n start v : ℕ) → v < 2 ^ n → (r : List ℕ) → ue7_decode n start (ue7_bytes v ++ r) ≡ ok (decoded v (start + length (ue7_bytes v)) r)
decodes n start v h r =
    let z : v / 128 * 128 + v % 128 % 128 ≡ v = omega arith in
    decode-rest n start (ue7_bytes v ++ r) (first_byte v r)
    ∙ rw (bytes_high v, append_assoc, rest-high n (v / 128) (omega arith))
    (rest-last n (v / 128) (start + length (high (v / 128))) (v % 128) r (omega arith) (omega arith)
    ∙ rw (z, length-append, add_assoc))

-- ---- what was read is what is written

module _ (n : ℕ) where
  abbrev Read : (v p : ℕ) → List ℕ → Decoded ℕ ℕ → Type 0
  Read v p l x = (x.value < 2 ^ n) × (high v ++ l ≡ ue7_bytes x.value ++ x.rest) × (x.next + length (high v) ≡ p + length (ue7_bytes x.value))

  -- a byte that goes on is no first byte of 0x80
  abbrev Leads : ℕ → List ℕ → Type 0
  Leads v l = 128 ≤ get_or l 0 0 → 0 < v * 128 + get_or l 0 0 % 128

  rest_read : (l : List ℕ) → All Byte l → (v p : ℕ) → Leads v l → (x : Decoded ℕ ℕ) → ue7_rest n v p l ≡ ok x → Read v p l x
  rest_read [] h v p k x e = absurd (error-not-ok (sym (rest_end n v p) ∙ e))
  rest_read (b ∷ l) h v p k x e =
      either_way (2 ^ n) (v * 128 + b % 128)
      (λ g. absurd (error-not-ok (sym (rest-large n v p b l g) ∙ e)))
      (λ g. either_way 128 b (λ m. go_on g m (λ pos. rest_read l h.1 (v * 128 + b % 128) (p + 1) pos x)) (λ m. last g m))
    where
      last : v * 128 + b % 128 < 2 ^ n → b < 128 → Read v p (b ∷ l) x
      last g m =
          let s = bytes_next v b m in
          subst (Read v p (b ∷ l)) (ok-injective (sym (rest-last n v p b l g m) ∙ e))
          (g, rw (s, append_assoc), rw (s, length-append) (omega arith))

      go_on : v * 128 + b % 128 < 2 ^ n → 128 ≤ b
          → (Leads (v * 128 + b % 128) l → ue7_rest n (v * 128 + b % 128) (p + 1) l ≡ ok x → Read (v * 128 + b % 128) (p + 1) l x)
          → Read v p (b ∷ l) x
      go_on g m rec =
          let s = high-next v b m h.0 (k m) in
          let ih = rec (λ _. omega (arith, k m)) (sym (rest_more n v p b l g m) ∙ e) in (
            ih.0,
            sym (append_assoc (high v) (b ∷ []) l) ∙ rw (← s) ih.1,
            omega (arith, ih.2, ap length s, length-append (high v) (b ∷ [])),
          )

encodes : (n start : ℕ) (l : List ℕ) → All Byte l → (x : Decoded ℕ ℕ) → ue7_decode n start l ≡ ok x → Found (ue7 n) start l x
encodes n start [] h x e = absurd (error-not-ok (sym (decode-end n start) ∙ e))
encodes n start (b ∷ l) h x e =
    elim (ℕ_discrete b 128) [
      | yes z ↦ absurd (error-not-ok (sym (decode-80 n start (b ∷ l) z) ∙ e))
      | no z ↦ read z (rest_read n (b ∷ l) h 0 start (λ k. omega arith) x (sym (decode-rest n start (b ∷ l) z) ∙ e))
    ]
  where
    read : (b ≡ 128 → ⊥) → Read n 0 start (b ∷ l) x → Found (ue7 n) start (b ∷ l) x
    read z s = (s.0, rw high_zero at s.1, omega (arith, s.2, ap length high_zero))

pub ue7-lawful : (n : ℕ) → Lawful Byte (ue7 n)
ue7-lawful n =
    record {
      tokens = λ v h. bytes-ue7 v;
      decodes = λ v h i p r. decodes n p v h r;
      encodes = λ i p l h x e. encodes n p l h x e;
    }
