-- What each way out of the reader, and each turn of its loop, says of the definition.
use Prim.Native.Nat.{ℕ, ◌+◌, ◌*◌, ◌%◌, ◌^◌, ◌≤◌, ◌<◌}
use mathlib.Core.Path.{◌≡◌, sym, ◌∙◌}
use mathlib.Core.List.{List, ◌∷◌}
use native.Mathlib.Omega.{arith}
use lib.ListN.{length, drop, get_or, drop_of_length-le}
use Rattle.bpg_codec.specs.Outcome.{Outcome, ok, error, Decoded, located}
use Rattle.bpg_codec.proofs.Lists.{drop-next}
use Rattle.bpg_ue7.specs.Ue7.{ue7_rest, ue7_decode}
use Rattle.bpg_ue7.proofs.Ue7Laws.{rest_end, rest-large, rest-last, rest_more, decode-end, decode-80, decode-rest}

module _ (n start : ℕ) (region : List ℕ) where
  abbrev all : Outcome (Decoded ℕ ℕ)
  all = ue7_decode n start (drop start region)

  first : start < length region → get_or (drop start region) 0 0 ≡ get_or region start 0
  first h = rw (drop-next region start 0 h)

  pub empty : length region ≤ start → error 2 start ≡ located all
  empty h = rw (drop_of_length-le region h, decode-end n start)

  pub marked : start < length region → get_or region start 0 ≡ 128 → error 7 start ≡ located all
  marked h e = rw (decode-80 n start (drop start region) (first h ∙ e))

  pub begun : start < length region → (get_or region start 0 ≡ 128 → ⊥) → all ≡ ue7_rest n 0 start (drop start region)
  begun h e = decode-rest n start (drop start region) (λ z. e (sym (first h) ∙ z))

  -- the value so far is v, and the next byte, if any, stands at p
  module _ (v p : ℕ) (inv : all ≡ ue7_rest n v p (drop p region)) where
    pub cut : p ≡ length region → error 2 (length region) ≡ located all
    cut e =
        let h : length region ≤ p = omega arith in
        rw (inv, drop_of_length-le region h, rest_end n v p, e)

    -- w is the value with that byte
    module _ (h : p < length region) (w : ℕ) (is : w ≡ v * 128 + get_or region p 0 % 128) where
      seen : all ≡ ue7_rest n v p (get_or region p 0 ∷ drop (p + 1) region)
      seen = inv ∙ rw (drop-next region p 0 h)

      pub large : 2 ^ n ≤ w → error 8 p ≡ located all
      large k = rw (seen, rest-large n v p (get_or region p 0) (drop (p + 1) region) (omega arith))

      pub done : w < 2 ^ n → get_or region p 0 < 128 → ok (w, p + 1) ≡ located all
      done k l = rw (is, seen, rest-last n v p (get_or region p 0) (drop (p + 1) region) (omega arith) l)

      pub more : w < 2 ^ n → 128 ≤ get_or region p 0 → all ≡ ue7_rest n w (p + 1) (drop (p + 1) region)
      more k l = rw is (seen ∙ rest_more n v p (get_or region p 0) (drop (p + 1) region) (omega arith) l)
