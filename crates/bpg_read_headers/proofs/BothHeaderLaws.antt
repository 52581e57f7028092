-- Reading both headers, by what each is read as.
use mathlib.Core.Path.{◌≡◌, refl, sym, ap}
use mathlib.Core.Bool.{Bool, true, false}
use mathlib.Core.List.{List}
use Prim.Native.Nat.{ℕ}
use lib.ListN.{drop}
use Rattle.bpg_codec.specs.Outcome.{Outcome, ok, error, ◌>>=◌, Decoded, decoded, located}
use Rattle.bpg_codec.proofs.Select.{select-true, select-false}
use Rattle.bpg_format.specs.declared.record.Header.{Header}
use Rattle.bpg_format.specs.Zero.{zero_header}
use Rattle.bpg_read_headers.specs.Headers.{header_in}
use Rattle.bpg_read_headers.specs.BothHeaders.{alpha_in, headers_in}

-- ---- the alpha header

module _ (file : List ℕ) (b : Bool) (depth p : ℕ) where
  pub alpha-present : b ≡ true → located (header_in file depth p) ≡ located (alpha_in file b depth p)
  alpha-present h = ap located (sym (select-true _ _ h))

  pub alpha-absent : b ≡ false → ok (zero_header, p) ≡ located (alpha_in file b depth p)
  alpha-absent h = ap located (sym (select-false _ (ok (decoded zero_header p (drop p file))) h))

-- ---- both, without what is left after them

abbrev Both : Type 0
Both = Header × Header × ℕ

abbrev both : Header → Header × ℕ → Both
both a c = (a, c.0, c.1)

abbrev then : Outcome (Header × ℕ) → (ℕ → Outcome (Header × ℕ)) → Outcome Both
then o f = o >>= λ a. f a.1 >>= λ c. ok (both a.0 c)

second : (a : Decoded ℕ Header) (o : Outcome (Decoded ℕ Header)) → (o >>= λ c. ok (both a.value (c.value, c.next))) ≡ (located o >>= λ c. ok (both a.value c))
second a (ok c) = refl
second a (error s q) = refl

first : (o : Outcome (Decoded ℕ Header)) (f : ℕ → Outcome (Decoded ℕ Header))
    → (o >>= λ a. f a.next >>= λ c. ok (both a.value (c.value, c.next))) ≡ then (located o) (λ q. located (f q))
first (ok a) f = second a (f a.next)
first (error s q) f = refl

pub headers-chain : (file : List ℕ) (b : Bool) (depth p : ℕ)
    → headers_in file b depth p ≡ then (located (alpha_in file b depth p)) (λ q. located (header_in file depth q))
unfolding headers_in
headers-chain file b depth p = first (alpha_in file b depth p) (header_in file depth)
