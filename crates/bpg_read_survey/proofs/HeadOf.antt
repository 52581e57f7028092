-- The head that is read of an accepted file is the one that its content gives: the block begins where the record says.
use mathlib.Core.Path.{◌≡◌, refl, ap, ◌∙◌}
use mathlib.Core.Bool.{Bool, true, false}
use mathlib.Core.List.{List, [], ◌∷◌, ◌++◌, append_assoc}
use Prim.Native.Nat.{ℕ, ◌+◌, ◌^◌, ◌≤◌, ◌<◌}
use native.Mathlib.Nat.{add-zero}
use native.Mathlib.Omega.{arith}
use lib.ListN.{length}
use mir.Facts.{no_eqb}
use Rattle.bpg_codec.specs.Select.{select}
use Rattle.bpg_codec.proofs.Select.{is_true}
use Rattle.bpg_codec.specs.Outcome.{ok, Decoded, decoded}
use Rattle.bpg_codec.proofs.Outcome.{ok-injective, unbind}
use Rattle.bpg_ue7.specs.Ue7.{ue7_bytes, ue7_decode, not_zero}
use Rattle.bpg_ue7.proofs.Ue7Laws.{ue7-lawful}
use Rattle.bpg_format.specs.Content.{Flags, Extension, Content}
use Rattle.bpg_format.specs.Syntax.{magic, byte4, byte5, block_bytes, extension_part, headers_and_data, data_length, file_of}
use Rattle.bpg_format.specs.Rules.{Rules}
use Rattle.bpg_format.specs.FileCodec.{FlagsRules, flags}
use Rattle.bpg_format.specs.Read.{if_present, read_flags, Head, read_head}
use Rattle.bpg_format.specs.Records.{extension_length_start, block_start}
use Rattle.bpg_format.proofs.FlagLaws.{flags-lawful}
use Rattle.bpg_format.proofs.RuleLaws.{flags_full, file-size}
use Rattle.bpg_format.proofs.RangeLaws.{start-after, data-end}

abbrev pub head_of : Content → Head
head_of c =
    record {
      flags = c.flags;
      width = c.width;
      height = c.height;
      data_length = data_length c;
      data_length_at = 6 + length (ue7_bytes c.width) + length (ue7_bytes c.height);
      extension_length = length (block_bytes c.extensions);
      extension_length_at = extension_length_start c;
      end = block_start c;
    }

flags-read : (f : Flags) → FlagsRules f → (r : List ℕ) → read_flags ((magic ++ (byte4 f ∷ byte5 f ∷ [])) ++ r) ≡ ok f
unfolding flags
flags-read f v r =
    unbind (read_flags _) _ (flags-lawful.decodes f v 0 0 r) λ g e k. e ∙ ap (λ (x : Decoded ℕ Flags). ok x.value) (ok-injective k)

number_read : (v : ℕ) → v < 2 ^ 32 → (p : ℕ) (l : List ℕ) → ue7_decode 32 p (ue7_bytes v ++ l) ≡ ok (decoded v (p + length (ue7_bytes v)) l)
number_read v h p l = (ue7-lawful 32).decodes v h p p l

-- without the extension flag there is no entry, and no length
length-read : (present : Bool) (es : List Extension) → (present ≡ false → es ≡ []) → length (block_bytes es) < 2 ^ 32 → (p : ℕ) (l : List ℕ)
    → if_present present 0 (ue7_decode 32) p (extension_part present es ++ l)
    ≡ ok (decoded (length (block_bytes es)) (p + select present (length (ue7_bytes (length (block_bytes es)))) 0) (block_bytes es ++ l))
unfolding select extension_part
length-read true es n h p l = rw (append_assoc, number_read (length (block_bytes es)) h)
length-read false es n h p l = rw (n refl, add-zero)

data-length-most : (c : Content) → data_length c ≤ length (headers_and_data c)
unfolding data_length select
data-length-most c = by c.explicit_length
  where
    by : (b : Bool) → select b (length (headers_and_data c)) 0 ≤ length (headers_and_data c)
    by true = omega arith
    by false = omega arith

pub head-of : (c : Content) → Rules c → read_head (file_of c) ≡ ok (head_of c)
unfolding read_head file_of extension_length_start block_start
head-of c r =
    let block : length (block_bytes c.extensions) < 2 ^ 32 = omega (arith, start-after c, data-end c r, r.size) in
    let size : data_length c < 2 ^ 32 = omega (arith, data-length-most c, file-size c, r.size) in
    rw (
      flags-read c.flags (flags_full c.flags r.pixel-format r.bit-depth r.color-space r.gray),
      number_read c.width r.width,
      is_true (not_zero c.width) (no_eqb r.width-not-zero),
      number_read c.height r.height,
      is_true (not_zero c.height) (no_eqb r.height-not-zero),
      number_read (data_length c) size,
      length-read c.flags.extension_present c.extensions r.absent-block block,
    )
