-- The payloads of an accepted file, counted one by one while its entries are read again.
use mathlib.Core.Path.{◌≡◌, refl, ap, ◌∙◌}
use mathlib.Core.List.{List, [], ◌∷◌, ◌++◌}
use Prim.Native.Nat.{ℕ, ◌+◌, ◌*◌, ◌≤◌, ◌<◌}
use native.Mathlib.Omega.{arith}
use lib.ListN.{take}
use Rattle.bpg_codec.specs.Outcome.{ok}
use Rattle.bpg_format.specs.declared.record.Entry.{Entry}
use Rattle.bpg_format.specs.Content.{Content}
use Rattle.bpg_format.specs.Read.{read_content}
use Rattle.std.specs.Prelude.{Result, Ok}
use Rattle.bpg_bytes.specs.declared.position.BytePos.{BytePos}
use Rattle.bpg_bytes.specs.declared.position.Located.{Located}
use Rattle.bpg_refusal.specs.declared.Refusal.{Refusal}
use Rattle.bpg_refusal.specs.Outcomes.{outcome}
use Rattle.bpg_read_entries.specs.Entries.{entry_head_answer, entry_in}
use Rattle.bpg_read_survey.proofs.Walking.{Walking, passed, passed-next, walks, walked, length-small}
use Rattle.bpg_partition.specs.Partitions.{payload_count, payload_bytes}
use Rattle.bpg_partition.proofs.CountLaws.{entries-payloads}

-- `total` has the payloads of the k entries that were passed; a length is below 2^32, so that the sum fits
pub record Counting (file : List ℕ) (count end p total next k : ℕ) : Type 0 where
  pub walking : Walking file count end p next k
  pub sum : total ≡ payload_bytes (passed walking)
  pub most : total ≤ k * 4294967296

pub none-counted : {file : List ℕ} {count end p next : ℕ} → Walking file count end p next 0 → Counting file count end p 0 next 0
unfolding payload_bytes
none-counted w = record { walking = w; sum = refl; most = omega arith }

one_more : (es : List Entry) (e : Entry) → payload_bytes (es ++ (e ∷ [])) ≡ payload_bytes es + e.payload.length
unfolding payload_bytes
one_more [] e = omega arith
one_more (x ∷ es) e = omega (arith, one_more es e)

module _ {file : List ℕ} {count end p total next k : ℕ} (v : Counting file count end p total next k) where
  abbrev w : Walking file count end p next k
  w = v.walking

  pub next-counted : (h : k < count) (r : Result (Located Entry BytePos) Refusal) → outcome (λ y. y) r ≡ entry_head_answer next (entry_in (take end file) next)
      → (t : Located Entry BytePos) → r ≡ Ok t → Counting file count end p (total + t.value.payload.length) t.next.0 (k + 1)
  next-counted h r read t is =
      record {
        walking = walks w h r read t is;
        sum = omega (arith, v.sum, one_more (passed w) t.value, ap payload_bytes (passed-next w h r read t is));
        most = omega (arith, v.most, length-small w h r read t is);
      }

  -- all are counted
  pub all-counted : count ≤ k → (c : Content) → read_content file ≡ ok c → total ≡ payload_count c.extensions
  all-counted h c e = v.sum ∙ ap payload_bytes (walked w h c e) ∙ entries-payloads p c.extensions
