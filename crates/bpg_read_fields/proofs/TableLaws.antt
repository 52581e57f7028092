-- The table's fields are those of a header.
use mathlib.Core.Path.{◌≡◌, refl, sym, ap, ◌∙◌}
use mathlib.Core.Bool.{Bool, true, false}
use mathlib.Core.List.{List, [], ◌∷◌, ◌++◌}
use Prim.Native.Nat.{ℕ, suc, min, ◌-◌, ◌%◌, ◌^◌, ◌≤◌, ◌<◌}
use native.Mathlib.Nat.{mod-eq_of_lt}
use native.Mathlib.Omega.{arith}
use lib.Dec.{eqb}
use lib.ListN.{drop, get_or, set, replicate}
use Rattle.bpg_codec.specs.Select.{select}
use Rattle.bpg_codec.specs.Outcome.{Outcome, ok, error, ◌>>=◌, decoded}
use Rattle.bpg_codec.specs.Codec.{Codec, decode_at, at_item}
use Rattle.bpg_codec.specs.Bits.{Bit}
use Rattle.bpg_codec.specs.Parts.{absent, fixed}
use Rattle.bpg_codec.proofs.Select.{select-true, select-false}
use Rattle.bpg_codec.proofs.Outcome.{bind_assoc, bind-cong, unlocate}
use Rattle.bpg_codec.proofs.Positions.{select-advances}
use Rattle.bpg_codec.proofs.Tokens.{all-bits}
use Rattle.bpg_bits.specs.BitNumbers.{unsigned, exp_golomb}
use Rattle.bpg_bits.proofs.Advances.{unsigned-advances, exp_golomb-advances}
use Rattle.bpg_bits.proofs.BitNumberLaws.{unsigned-lawful}
use Rattle.bpg_format.specs.declared.record.Header.{Header}
use Rattle.bpg_format.specs.FileCodec.{one_bit, optional, SizeFields, size_fields, PcmFields, pcm_fields, no_pcm, sps_fields, no_sps, header_from, header_fields}
use Rattle.std.specs.Prelude.{Option, Some, None}
use Rattle.bpg_bytes.specs.declared.position.BitPos.{BitPos}
use Rattle.bpg_bytes.specs.declared.position.Located.{Located}
use Rattle.bpg_read_fields.specs.AllFields.{fields_answer}
use Rattle.bpg_read_fields.specs.Table.{widths, gates, no_values, field_codec, field_at, values_from, values_answer, header_of}
use Rattle.bpg_read_fields.proofs.AllFieldLaws.{optional-advances, sizes-at, pcm-at, sps-at, flag_at, rest_sequence, rest_at, fields_at}
use Rattle.bpg_read_fields.proofs.LoopLaws.{values-none, values-suc, field-absent}
use Rattle.bpg_read_fields.proofs.FlagLaws.{flags, flags-cons, flags-none}

module _ (bits : List Bool) where
  abbrev E : ℕ → Outcome (ℕ × ℕ)
  E p = decode_at bits exp_golomb 0 p

  abbrev U : ℕ → ℕ → Outcome (ℕ × ℕ)
  U n p = decode_at bits (unsigned n) 0 p

  -- a field of n bits is below 2^n
  below : (n p : ℕ) (x : ℕ × ℕ) → U n p ≡ ok x → x.0 < 2 ^ n
  below n p x e =
      unlocate ((unsigned n).decode 0 p (drop p bits)) e λ r e1.
      ((unsigned-lawful n).encodes 0 p (drop p bits) (all-bits (drop p bits)) (decoded x.0 x.1 r) e1).0

  -- ---- a field of the table

  module _ (p w : ℕ) where
    abbrev here : Codec Bool ℕ
    here = select (eqb w 0) exp_golomb (unsigned (min w 8))

    pub field-code : {b : Bool} → b ≡ true → eqb w 0 ≡ true → decode_at bits (field_codec b w) 0 p ≡ E p
    field-code g e = rw (select-true {X = Codec Bool ℕ} here (absent 0) g, select-true {X = Codec Bool ℕ} exp_golomb (unsigned (min w 8)) e)

    pub field-bits : {b : Bool} → b ≡ true → eqb w 0 ≡ false → decode_at bits (field_codec b w) 0 p ≡ U (min w 8) p
    field-bits g e = rw (select-true {X = Codec Bool ℕ} here (absent 0) g, select-false {X = Codec Bool ℕ} exp_golomb (unsigned (min w 8)) e)

  -- the position after a field is not before it
  pub field-later : (p w : ℕ) (x : ℕ × ℕ) → decode_at bits (field_codec true w) 0 p ≡ ok x → p ≤ x.1
  field-later p w x e =
      unlocate ((field_codec true w).decode 0 p (drop p bits)) e λ r e1.
      ((optional-advances true 0 (select-advances (eqb w 0) exp_golomb-advances (unsigned-advances (min w 8)))).advances 0 p (drop p bits) (decoded x.0 x.1 r) e1).forward

  -- the header that the last n fields give, after these values
  abbrev pub made : (n : ℕ) (values : List ℕ) (p : ℕ) → Outcome (Header × ℕ)
  made n v p = values_from bits n v p >>= λ x. ok (header_of x.0, x.1)

  abbrev then : (n : ℕ) → List ℕ → ℕ × ℕ → Outcome (Header × ℕ)
  then n v x = made n (set v (24 - n) x.0) x.1

  abbrev gate : (n : ℕ) → List ℕ → Bool
  gate n v = eqb (get_or v (get_or gates (24 - n) 0) 0) 1

  made_none : (v : List ℕ) (p : ℕ) → made 0 v p ≡ ok (header_of v, p)
  made_none v p = ap (λ (o : Outcome (List ℕ × ℕ)). o >>= λ x. ok (header_of x.0, x.1)) (values-none bits v p)

  module _ (n : ℕ) (v : List ℕ) (p : ℕ) where
    abbrev width : ℕ
    width = get_or widths (24 - n) 0

    made-next : (o : Outcome (ℕ × ℕ)) → decode_at bits (field_at (24 - n) v) 0 p ≡ o → made (suc n) v p ≡ (o >>= then n v)
    made-next o e = rw (values-suc bits n v p, e) (bind_assoc o _ _)

    absent-step : gate n v ≡ false → made (suc n) v p ≡ then n v (0, p)
    absent-step g = made-next (ok (0, p)) (field-absent bits p width g)

    code_step : gate n v ≡ true → eqb width 0 ≡ true → made (suc n) v p ≡ (E p >>= then n v)
    code_step g e = made-next (E p) (field-code p width g e)

    bits-step : (w : ℕ) → gate n v ≡ true → eqb width 0 ≡ false → min width 8 ≡ w → made (suc n) v p ≡ (U w p >>= then n v)
    bits-step w g e m = made-next (U w p) (field-bits p width g e ∙ ap (λ (k : ℕ). U k p) m)

    flag-step : gate n v ≡ true → eqb width 0 ≡ false → min width 8 ≡ 1 → (k : List Bool × ℕ → Outcome (Header × ℕ))
        → ((x : ℕ × ℕ) → then n v x ≡ (flags bits n x.1 >>= λ y. k (eqb x.0 1 ∷ y.0, y.1))) → made (suc n) v p ≡ (flags bits (suc n) p >>= k)
    flag-step g e m k h = bits-step 1 g e m ∙ bind-cong (U 1 p) _ _ (λ x _. h x) ∙ sym (flags-cons bits k n p)

  -- ---- the groups

  -- the values while the fields are read, in the order of the file
  abbrev sized : SizeFields → List ℕ → List ℕ
  sized s l = s.0 ∷ s.1.0 ∷ s.1.1.0 ∷ s.1.1.1.0 ∷ s.1.1.1.1 ∷ l

  abbrev left : ℕ → List ℕ
  left n = replicate n 0 ++ (1 ∷ [])

  sizes-part : (p : ℕ) (k : SizeFields × ℕ → Outcome (Header × ℕ)) → ((x : SizeFields × ℕ) → made 20 (sized x.0 (left 20)) x.1 ≡ k x)
      → made 25 no_values p ≡ (decode_at bits size_fields 0 p >>= k)
  sizes-part p k h =
      code_step 24 no_values p refl refl
      ∙ bind-cong (E p) _ _ (λ a _.
      code_step 23 _ a.1 refl refl
      ∙ bind-cong (E a.1) _ _ λ b _.
      code_step 22 _ b.1 refl refl
      ∙ bind-cong (E b.1) _ _ λ c _.
      code_step 21 _ c.1 refl refl
      ∙ bind-cong (E c.1) _ _ λ d _.
      code_step 20 _ d.1 refl refl
      ∙ bind-cong (E d.1) _ _ λ e _.
      h ((a.0, (b.0, (c.0, (d.0, e.0)))), e.1))
      ∙ sym (rw (sizes-at bits p) (simp bind_assoc))

  abbrev Numbers : Type 0
  Numbers = ℕ × (ℕ × (ℕ × (ℕ × ℕ)))

  abbrev pcm_of : Numbers → PcmFields
  pcm_of m = (m.0, (m.1.0, (m.1.1.0, (m.1.1.1.0, eqb m.1.1.1.1 1))))

  -- the depths are below 16, so that a byte holds them
  abbrev Small : Numbers → Type 0
  Small m = (m.0 < 256) × (m.1.0 < 256)

  module _ (s : SizeFields) (sao pcm : ℕ) where
    abbrev after-pcm : Numbers → List ℕ → List ℕ
    after-pcm m l = sized s (sao ∷ pcm ∷ sized m l)

    pcm-part : (p : ℕ) (b : Bool) → eqb pcm 1 ≡ b → (k : PcmFields × ℕ → Outcome (Header × ℕ))
        → ((m : Numbers) (q : ℕ) → Small m → made 13 (after-pcm m (left 13)) q ≡ k (pcm_of m, q))
        → made 18 (sized s (sao ∷ pcm ∷ left 18)) p ≡ (decode_at bits (optional b pcm_fields no_pcm) 0 p >>= k)
    unfolding absent
    pcm-part p true g k h =
        bits-step 17 _ p 4 g refl refl
        ∙ bind-cong (U 4 p) _ _ (λ a ea.
        bits-step 16 _ a.1 4 g refl refl
        ∙ bind-cong (U 4 a.1) _ _ λ b eb.
        code_step 15 _ b.1 g refl
        ∙ bind-cong (E b.1) _ _ λ c _.
        code_step 14 _ c.1 g refl
        ∙ bind-cong (E c.1) _ _ λ d _.
        bits-step 13 _ d.1 1 g refl refl
        ∙ bind-cong (U 1 d.1) _ _ (λ e _. h (a.0, (b.0, (c.0, (d.0, e.0)))) e.1 (omega (arith, below 4 p a ea), omega (arith, below 4 a.1 b eb)))
        ∙ sym (flag_at bits d.1 (λ x. k ((a.0, (b.0, (c.0, (d.0, x.0)))), x.1))))
        ∙ sym (rw (select-true {X = Codec Bool PcmFields} pcm_fields (absent no_pcm) refl, pcm-at bits p) (simp bind_assoc))
    pcm-part p false g k h =
        absent-step 17 _ p g ∙ absent-step 16 _ p g ∙ absent-step 15 _ p g ∙ absent-step 14 _ p g ∙ absent-step 13 _ p g
        ∙ h (0, (0, (0, (0, 0)))) p (omega arith, omega arith)
        ∙ sym (rw (select-false {X = Codec Bool PcmFields} pcm_fields (absent no_pcm) refl))

    module _ (m : Numbers) (small : Small m) (strong sps : ℕ) where
      abbrev after-sps : (range seven : ℕ) → List ℕ → List ℕ
      after-sps range seven l = after-pcm m (strong ∷ sps ∷ range ∷ seven ∷ l)

      sps-part : (p : ℕ) (b : Bool) → eqb sps 1 ≡ b → (k : (Bool × ℕ) × ℕ → Outcome (Header × ℕ))
          → ((range seven q : ℕ) → seven < 256 → made 9 (after-sps range seven (left 9)) q ≡ k ((eqb range 1, seven), q))
          → made 11 (after-pcm m (strong ∷ sps ∷ left 11)) p ≡ (decode_at bits (optional b sps_fields no_sps) 0 p >>= k)
      unfolding absent
      sps-part p true g k h =
          bits-step 10 _ p 1 g refl refl
          ∙ bind-cong (U 1 p) _ _ (λ a _. bits-step 9 _ a.1 7 g refl refl ∙ bind-cong (U 7 a.1) _ _ λ b e. h a.0 b.0 b.1 (omega (arith, below 7 a.1 b e)))
          ∙ sym (rw (select-true {X = Codec Bool (Bool × ℕ)} sps_fields (absent no_sps) refl, sps-at bits p) (simp bind_assoc)
          ∙ flag_at bits p (λ x. U 7 x.1 >>= λ y. k ((x.0, y.0), y.1)))
      sps-part p false g k h =
          absent-step 10 _ p g ∙ absent-step 9 _ p g ∙ h 0 0 p (omega arith) ∙ sym (rw (select-false {X = Codec Bool (Bool × ℕ)} sps_fields (absent no_sps) refl))

      module _ (range seven : ℕ) (seven-small : seven < 256) where
        abbrev header_with : List Bool → Header
        header_with nine = header_from (s, (eqb sao 1, (eqb pcm 1, (pcm_of m, (eqb strong 1, (eqb sps 1, ((eqb range 1, seven), nine)))))))

        -- in a byte as they are
        kept : (l : List ℕ) (nine : List Bool) → header_of (after-sps range seven l)
            ≡ header_from (s, (eqb sao 1, (eqb pcm 1, ((m.0 % 256, (m.1.0 % 256, (pcm_of m).1.1)), (eqb strong 1, (eqb sps 1, ((eqb range 1, seven % 256), nine)))))))
            → header_of (after-sps range seven l) ≡ header_with nine
        kept l nine e = e ∙ rw (mod-eq_of_lt small.0, mod-eq_of_lt small.1, mod-eq_of_lt seven-small)

        -- the flags that are left, one by one
        nine-part : (p : ℕ) (b : Bool) → eqb range 1 ≡ b
            → made 9 (after-sps range seven (left 9)) p
            ≡ (decode_at bits (optional b (fixed Bit 9 15 at_item) (replicate 9 false)) 0 p >>= λ y. ok (header_with y.0, y.1))
        unfolding absent
        nine-part p true o =
            (flag-step 8 _ p o refl refl (λ y. ok (header_with y.0, y.1)) λ a.
            flag-step 7 _ a.1 o refl refl _ λ b.
            flag-step 6 _ b.1 o refl refl _ λ c.
            flag-step 5 _ c.1 o refl refl _ λ d.
            flag-step 4 _ d.1 o refl refl _ λ e.
            flag-step 3 _ e.1 o refl refl _ λ f.
            flag-step 2 _ f.1 o refl refl _ λ g.
            flag-step 1 _ g.1 o refl refl _ λ h.
            flag-step 0 _ h.1 o refl refl _ λ i.
            made_none _ i.1
            ∙ ap (λ (x : Header). ok (x, i.1)) (kept (a.0 ∷ b.0 ∷ c.0 ∷ d.0 ∷ e.0 ∷ f.0 ∷ g.0 ∷ h.0 ∷ i.0 ∷ (1 ∷ [])) _ refl)
            ∙ sym (flags-none bits _ i.1))
            ∙ sym (rw (select-true {X = Codec Bool (List Bool)} (fixed Bit 9 15 at_item) (absent (replicate 9 false)) refl))
        nine-part p false o =
            absent-step 8 _ p o ∙ absent-step 7 _ p o ∙ absent-step 6 _ p o ∙ absent-step 5 _ p o ∙ absent-step 4 _ p o ∙ absent-step 3 _ p o
            ∙ absent-step 2 _ p o ∙ absent-step 1 _ p o ∙ absent-step 0 _ p o ∙ made_none _ p ∙ ap (λ (h : Header). ok (h, p)) (kept (left 9) (replicate 9 false) refl)
            ∙ sym (rw (select-false {X = Codec Bool (List Bool)} (fixed Bit 9 15 at_item) (absent (replicate 9 false)) refl))

  -- ---- all fields, each after those before it

  module _ (s : SizeFields) (sao pcm : Bool) (m : PcmFields) where
    abbrev sps_then : (strong sps : Bool) → (Bool × ℕ) × ℕ → Outcome (Header × ℕ)
    sps_then strong sps x =
        decode_at bits (optional x.0.0 (fixed Bit 9 15 at_item) (replicate 9 false)) 0 x.1 >>= λ y.
        ok (header_from (s, (sao, (pcm, (m, (strong, (sps, (x.0, y.0))))))), y.1)

    abbrev strong_then : (strong : Bool) → Bool × ℕ → Outcome (Header × ℕ)
    strong_then strong x = decode_at bits (optional x.0 sps_fields no_sps) 0 x.1 >>= sps_then strong x.0

    abbrev pcm_then : Bool × ℕ → Outcome (Header × ℕ)
    pcm_then x = decode_at bits one_bit 0 x.1 >>= strong_then x.0

    rest-chain : (p : ℕ) → (decode_at bits rest_sequence 0 p >>= λ x. ok (header_from (s, (sao, (pcm, (m, x.0)))), x.1)) ≡ (decode_at bits one_bit 0 p >>= pcm_then)
    rest-chain p = rw (rest_at bits 0 p) (simp bind_assoc)

  abbrev sao_then : (s : SizeFields) (sao : Bool) → Bool × ℕ → Outcome (Header × ℕ)
  sao_then s sao x =
      decode_at bits (optional x.0 pcm_fields no_pcm) 0 x.1 >>= λ y.
      decode_at bits rest_sequence 0 y.1 >>= λ z.
      ok (header_from (s, (sao, (x.0, (y.0, z.0)))), z.1)

  abbrev sizes_then : SizeFields × ℕ → Outcome (Header × ℕ)
  sizes_then x = decode_at bits one_bit 0 x.1 >>= λ y. decode_at bits one_bit 0 y.1 >>= sao_then x.0 y.0

  rest_part : (s : SizeFields) (sao pcm : ℕ) (m : Numbers) → Small m → (p : ℕ)
      → made 13 (after-pcm s sao pcm m (left 13)) p ≡ (decode_at bits one_bit 0 p >>= pcm_then s (eqb sao 1) (eqb pcm 1) (pcm_of m))
  rest_part s sao pcm m small p =
      bits-step 12 _ p 1 refl refl refl
      ∙ bind-cong (U 1 p) _ _ (λ a _.
      bits-step 11 _ a.1 1 refl refl refl
      ∙ bind-cong (U 1 a.1) _ _ (λ b _.
      sps-part s sao pcm m small a.0 b.0 b.1 (eqb b.0 1) refl (sps_then s (eqb sao 1) (eqb pcm 1) (pcm_of m) (eqb a.0 1) (eqb b.0 1)) λ range seven q low.
      nine-part s sao pcm m small a.0 b.0 range seven low q (eqb range 1) refl)
      ∙ sym (flag_at bits a.1 (strong_then s (eqb sao 1) (eqb pcm 1) (pcm_of m) (eqb a.0 1))))
      ∙ sym (flag_at bits p (pcm_then s (eqb sao 1) (eqb pcm 1) (pcm_of m)))

  flags-part : (s : SizeFields) (p : ℕ) → made 20 (sized s (left 20)) p ≡ sizes_then (s, p)
  flags-part s p =
      bits-step 19 _ p 1 refl refl refl
      ∙ bind-cong (U 1 p) _ _ (λ a _.
      bits-step 18 _ a.1 1 refl refl refl
      ∙ bind-cong (U 1 a.1) _ _ (λ b _.
      pcm-part s a.0 b.0 b.1 (eqb b.0 1) refl _ λ m q small.
      rest_part s a.0 b.0 m small q ∙ sym (rest-chain s (eqb a.0 1) (eqb b.0 1) (pcm_of m) q))
      ∙ sym (flag_at bits a.1 (sao_then s (eqb a.0 1))))
      ∙ sym (flag_at bits p (λ y. decode_at bits one_bit 0 y.1 >>= sao_then s y.0))

  pub table-fields : (p : ℕ) → made 25 no_values p ≡ decode_at bits header_fields 0 p
  table-fields p = sizes-part p sizes_then (λ x. flags-part x.0 x.1) ∙ sym (fields_at bits 0 p)

-- ---- the values as the fields' answer

module _ (bits : List Bool) (p : ℕ) (v : Option (Located (List ℕ) BitPos)) (e : v ≡ values_answer (values_from bits 25 no_values p)) where
  by-table : (r : Option (Located Header BitPos)) → r ≡ fields_answer (made bits 25 no_values p) → r ≡ fields_answer (decode_at bits header_fields 0 p)
  by-table r k = k ∙ ap fields_answer (table-fields bits p)

  pub values-missing : v ≡ None → None ≡ fields_answer (decode_at bits header_fields 0 p)
  values-missing f = by-table None (by (values_from bits 25 no_values p) (sym f ∙ e))
    where
      by : (o : Outcome (List ℕ × ℕ)) → None ≡ values_answer o → None ≡ fields_answer (o >>= λ x. ok (header_of x.0, x.1))
      by (ok x) k = cc
      by (error s q) k = refl

  pub values-found : (x : Located (List ℕ) BitPos) → v ≡ Some x → Some (record { value = header_of x.value; next = x.next }) ≡ fields_answer (decode_at bits header_fields 0 p)
  values-found x f = by-table _ (by (values_from bits 25 no_values p) (sym f ∙ e))
    where
      by : (o : Outcome (List ℕ × ℕ)) → Some x ≡ values_answer o
          → Some (record { value = header_of x.value; next = x.next }) ≡ fields_answer (o >>= λ x. ok (header_of x.0, x.1))
      by (ok y) k =
          let same : x ≡ record { value = y.0; next = record { 0 = y.1 } } = cc in
          ap (λ (z : Located (List ℕ) BitPos). Some (record { value = header_of z.value; next = z.next })) same
      by (error s q) k = cc
