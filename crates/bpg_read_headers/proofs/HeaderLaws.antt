-- Reading a header, by what its fields are read as and by the first rule that is broken.
use mathlib.Core.Path.{◌≡◌, refl, sym, ap, ◌∙◌}
use mathlib.Core.Bool.{Bool, true, false}
use mathlib.Core.List.{List, []}
use Prim.Native.Nat.{ℕ, ◌+◌, ◌*◌, ◌^◌, ◌≤◌, ◌<◌}
use native.Mathlib.Omega.{arith}
use lib.Dec.{leb}
use lib.ListN.{length, take, drop, length-drop, drop_of_length-le}
use lib.Seq.{take_all, length-take-le}
use borrow.Author.Tests.{le-leb, lt-leb}
use Rattle.bpg_codec.specs.Outcome.{Outcome, ok, error, ◌>>=◌, guard, Decoded, decoded, located}
use Rattle.bpg_codec.specs.Codec.{decode_at}
use Rattle.bpg_codec.specs.Bits.{is_padding, unpack}
use Rattle.bpg_codec.proofs.Outcome.{error-not-ok}
use Rattle.bpg_codec.proofs.Lists.{take-drop, either_way}
use Rattle.bpg_codec.proofs.Bits.{unpack-drop}
use Rattle.bpg_codec.proofs.Positions.{whole, within}
use Rattle.bpg_ue7.specs.Ue7.{ue7}
use Rattle.bpg_bits.specs.BitNumbers.{region_bits}
use Rattle.bpg_ue7.proofs.Ue7Laws.{decode-end}
use Rattle.bpg_ue7.proofs.Advances.{ue7-advances}
use Rattle.std.specs.Prelude.{Option, Some, None}
use Rattle.bpg_bytes.specs.declared.position.BitPos.{BitPos}
use Rattle.bpg_bytes.specs.declared.position.Located.{Located}
use Rattle.bpg_format.specs.Limits.{max_file}
use Rattle.bpg_format.specs.declared.record.Header.{Header}
use Rattle.bpg_format.specs.Tests.{no_forbidden_bit, hevc_allowed}
use Rattle.bpg_format.specs.Read.{read_fields, read_header}
use Rattle.bpg_format.specs.FileCodec.{header_fields}
use Rattle.bpg_format.proofs.Chain.{fields-chain}
use Rattle.bpg_read_fields.specs.AllFields.{fields_answer}
use Rattle.bpg_read_headers.specs.Headers.{fields_in, header_in}
use Rattle.bpg_read_fields.proofs.AllFieldLaws.{fields-advance, fields-missing, fields-found}

-- a region that is no longer than a file is read to its end
all-bits : (region : List ℕ) → length region ≤ max_file → region_bits region ≡ unpack region
all-bits region short = ap unpack (take_all (2 ^ 60) region (omega arith))

-- ---- the fields take up the region

module _ (region : List ℕ) (depth p start : ℕ) (short : length region ≤ max_file) (r : Option (Located Header BitPos))
    (e : r ≡ fields_answer (decode_at (region_bits region) header_fields 0 (8 * start))) where
  fields-are : (o : Outcome (Header × ℕ)) → decode_at (region_bits region) header_fields p (8 * start) ≡ o
      → read_fields p (8 * start) (unpack (drop start region)) ≡ (o >>= λ x. ok (decoded x.0 x.1 (drop x.1 (region_bits region))))
  fields-are o k =
      sym (fields-chain p (8 * start) (unpack (drop start region)))
      ∙ ap (header_fields.decode p (8 * start)) (unpack-drop start region ∙ ap (drop (8 * start)) (sym (all-bits region short)))
      ∙ whole fields-advance (region_bits region) p (8 * start) o (sym k)

  pub field-missing : r ≡ None → error 15 p ≡ located (fields_in region depth p start)
  unfolding fields_in
  field-missing f = rw (fields-are (error 15 p) (fields-missing (region_bits region) (8 * start) r e p f))

  module _ (x : Located Header BitPos) (f : r ≡ Some x) where
    found : read_fields p (8 * start) (unpack (drop start region)) ≡ ok (decoded x.value x.next.0 (drop x.next.0 (region_bits region)))
    found = fields-are (ok (x.value, x.next.0)) (fields-found (region_bits region) (8 * start) r e p x f)

    pub not-padded : is_padding (drop x.next.0 (region_bits region)) ≡ false → error 15 p ≡ located (fields_in region depth p start)
    unfolding fields_in
    not-padded a = rw (found, a)

    module _ (padded : is_padding (drop x.next.0 (region_bits region)) ≡ true) where
      pub forbidden : no_forbidden_bit x.value ≡ false → error 17 p ≡ located (fields_in region depth p start)
      unfolding fields_in
      forbidden a = rw (found, padded, a)

      module _ (none : no_forbidden_bit x.value ≡ true) where
        pub rule-broken : hevc_allowed depth x.value ≡ false → error 16 p ≡ located (fields_in region depth p start)
        unfolding fields_in
        rule-broken a = rw (found, padded, none, a)

        pub header_read : hevc_allowed depth x.value ≡ true
            → ok (x.value, length region) ≡ located (fields_in region depth p start)
        unfolding fields_in
        header_read a = rw (found, padded, none, a)

-- ---- the header's length

-- what is judged after the fields
abbrev judged : (depth p n : ℕ) → List ℕ → Decoded Bool Header → Outcome (Decoded ℕ Header)
judged depth p n l fields =
    guard (is_padding fields.rest) 15 p >>= λ _.
    guard (no_forbidden_bit fields.value) 17 p >>= λ _.
    guard (hevc_allowed depth fields.value) 16 p >>= λ _.
    ok (decoded fields.value n l)

-- what is left after the header is no part of the answer
rest-apart : (a b c : Bool) (p n : ℕ) (l r : List ℕ) (h : Header)
    → located (guard a 15 p >>= λ _. guard b 17 p >>= λ _. guard c 16 p >>= λ _. ok (decoded h n l))
    ≡ located (guard a 15 p >>= λ _. guard b 17 p >>= λ _. guard c 16 p >>= λ _. ok (decoded h n r))
rest-apart true true true p n l r h = refl
rest-apart true true false p n l r h = refl
rest-apart true false c p n l r h = refl
rest-apart false b c p n l r h = refl

judged-apart : (m : Outcome (Decoded Bool Header)) (depth p n : ℕ) (l r : List ℕ) → located (m >>= judged depth p n l) ≡ located (m >>= judged depth p n r)
judged-apart (ok x) depth p n l r = rest-apart (is_padding x.rest) (no_forbidden_bit x.value) (hevc_allowed depth x.value) p n l r x.value
judged-apart (error s o) depth p n l r = refl

module _ (file : List ℕ) (depth p : ℕ) where
  pub file-long : max_file < length file → error 1 0 ≡ located (header_in file depth p)
  unfolding header_in
  file-long h = rw (lt-leb (length file) max_file h)

  module _ (short : length file ≤ max_file) where
    pub in-file : header_in file depth p ≡ read_header depth p (drop p file)
    unfolding header_in
    in-file = rw (le-leb (length file) max_file short)

    pub length-refused : (s o : ℕ) → (ue7 32).decode p p (drop p file) ≡ error s o → error s o ≡ located (header_in file depth p)
    unfolding read_header
    length-refused s o e = rw (in-file, e)

    module _ (v q : ℕ) (e : (ue7 32).decode p p (drop p file) ≡ ok (decoded v q (drop q file))) where
      -- a number was read, so the file did not end before it
      pub length-inside : q ≤ length file
      length-inside =
          either_way p (length file)
          (λ h. within (ue7-advances 32) file p p h (decoded v q (drop q file)) e)
          (λ h.
          let none : drop p file ≡ [] = drop_of_length-le file {i = p} (omega (arith, h)) in
          absurd (error-not-ok (sym (ap ((ue7 32).decode p p) none ∙ decode-end 32 p) ∙ e)))

      pub too_large : length file < q + v → error 2 p ≡ located (header_in file depth p)
      unfolding read_header
      too_large h = rw (in-file, e, lt-leb v (length (drop q file)) (omega (arith, length-drop q file, length-inside)))

      pub sized : q + v ≤ length file → located (fields_in (take (q + v) file) depth p q) ≡ located (header_in file depth p)
      unfolding read_header fields_in
      sized h =
          let fits : leb v (length (drop q file)) ≡ true = le-leb v (length (drop q file)) (omega (arith, length-drop q file, length-inside)) in
          let ends : length (take (q + v) file) ≡ q + v = length-take-le (q + v) file h in
          rw (in-file, e, fits, take-drop v q file, ends)
          (judged-apart (read_fields p (8 * q) (unpack (drop q (take (q + v) file)))) depth p (q + v) (drop (q + v) (take (q + v) file)) (drop v (drop q file)))
