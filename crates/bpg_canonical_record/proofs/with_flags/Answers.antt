use Rattle.std.proofs.Common.{◌≡◌, List, [], ◌∷◌, map, length, get_or, false, not, eqb, refl, ap, ap₂, ◌∙◌, arith}
use Rattle.bpg_format.specs.declared.record.Header.{Header}
use Rattle.bpg_canonical_record.specs.Records.{canonical_header, record_with}
use Rattle.bpg_canonical_record.proofs.with_flags.Goals as goal

-- both of two
both : {A B : Type 0} (f : A → B) (l : List A) (d : A) → length l ≡ 2 → f (get_or l 0 d) ∷ f (get_or l 1 d) ∷ [] ≡ map f l
both f [] d h = absurd (omega arith)
both f (x ∷ []) d h = absurd (omega arith)
both f (x ∷ y ∷ []) d h = refl
both f (x ∷ y ∷ z ∷ l) d h = absurd (omega arith)

pub returns : goal.returns
returns c =
    let r = c.args.«record».now in
    let two : length r.headers ≡ 2 = omega arith in
    ap (λ (l : List Header). record_with (not (eqb r.entry_count 0)) false r.entries l r)
    (ap₂ (λ (x y : Header). x ∷ y ∷ []) c.canonical_header.ensures c.canonical_header-2.ensures ∙ both canonical_header r.headers _ two)
