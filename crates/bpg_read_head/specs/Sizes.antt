-- What reading width and height gives (document 01, "Order of the file", item 3).
use Rattle.std.specs.Prelude.{List, ℕ}
use Rattle.bpg_codec.specs.Outcome.{Outcome, ok, ◌>>=◌, guard, Decoded, decoded}
use Rattle.bpg_ue7.specs.Ue7.{ue7_decode, not_zero}
use Rattle.bpg_read_head.specs.declared.size.Size.{Size}

unfoldable pub read_size : (p : ℕ) → List ℕ → Outcome (Decoded ℕ (ℕ × ℕ))
read_size p l =
    ue7_decode 32 p l >>= λ width.
    guard (not_zero width.value) 9 p >>= λ _.
    ue7_decode 32 width.next width.rest >>= λ height.
    guard (not_zero height.value) 9 width.next >>= λ _.
    ok (decoded (width.value, height.value) height.next height.rest)

abbrev pub size_numbers : Size → ℕ × ℕ
size_numbers x = (x.width, x.height)
