-- The entries of an accepted file, read again and stored in its record one by one.
use mathlib.Core.Path.{◌≡◌, sym, ap, ◌∙◌}
use mathlib.Core.List.{List}
use Prim.Native.Nat.{ℕ, ◌+◌, ◌≤◌, ◌<◌}
use native.Mathlib.Omega.{arith}
use lib.ListN.{take, set, replicate}
use Rattle.bpg_codec.specs.Outcome.{ok}
use Rattle.bpg_format.specs.Limits.{max_entries}
use Rattle.bpg_format.specs.declared.record.Entry.{Entry}
use Rattle.bpg_format.specs.declared.record.Record.{Record}
use Rattle.bpg_format.specs.declared.answer.Reading.{Reading}
use Rattle.bpg_format.specs.Zero.{zero_entry}
use Rattle.bpg_format.specs.Content.{Content}
use Rattle.bpg_format.specs.Read.{read_content}
use Rattle.bpg_format.specs.Records.{entries_at, pad_entries, with_entries}
use Rattle.std.specs.Prelude.{Result, Ok}
use Rattle.bpg_bytes.specs.declared.position.BytePos.{BytePos}
use Rattle.bpg_bytes.specs.declared.position.Located.{Located}
use Rattle.bpg_refusal.specs.declared.Refusal.{Refusal}
use Rattle.bpg_refusal.specs.Outcomes.{outcome}
use Rattle.bpg_read_entries.specs.Entries.{entry_head_answer, entry_in}
use Rattle.bpg_read_entries.proofs.LastEntry.{pad-snoc}
use Rattle.bpg_read_survey.proofs.Walking.{Walking, passed, passed-count, passed-next, walks, walked}

-- k entries of the file stand in the record r
pub record Filling (file : List ℕ) (count end : ℕ) (first : Record) (p : ℕ) (r : Record) (next k : ℕ) : Type 0 where
  pub walking : Walking file count end p next k
  pub filled : r ≡ with_entries first (pad_entries (passed walking))

pub no-entries : {file : List ℕ} {count end p next : ℕ} (first : Record) → first.entries ≡ replicate max_entries zero_entry → Walking file count end p next 0
    → Filling file count end first p first next 0
no-entries first z w = record { walking = w; filled = ap (with_entries first) z }

module _ {file : List ℕ} {count end : ℕ} {first : Record} {p : ℕ} {r : Record} {next k : ℕ} (v : Filling file count end first p r next k) where
  abbrev w : Walking file count end p next k
  w = v.walking

  module _ (h : k < count) (x : Result (Located Entry BytePos) Refusal) (e : outcome (λ y. y) x ≡ entry_head_answer next (entry_in (take end file) next))
      (t : Located Entry BytePos) (is : x ≡ Ok t) where
    stored : set (pad_entries (passed w)) k t.value ≡ pad_entries (passed (walks w h x e t is))
    stored =
        ap (λ (n : ℕ). set (pad_entries (passed w)) n t.value) (sym (passed-count w h))
        ∙ pad-snoc (passed w) t.value (omega (arith, passed-count w h, w.few)) ∙ ap pad_entries (sym (passed-next w h x e t is))

    pub fills : Filling file count end first p (with_entries r (set r.entries k t.value)) t.next.0 (k + 1)
    fills =
        record {
          walking = walks w h x e t is;
          filled = ap (λ (y : Record). with_entries y (set y.entries k t.value)) v.filled ∙ ap (with_entries first) stored;
        }

  -- all are stored
  pub full : count ≤ k → (c : Content) → read_content file ≡ ok c → r ≡ with_entries first (pad_entries (entries_at p c.extensions))
  full h c e = v.filled ∙ ap (λ (l : List Entry). with_entries first (pad_entries l)) (walked w h c e)

-- a reading with another record
abbrev pub replaced : Reading → Record → Reading
replaced r x = record { status = r.status; offset = r.offset; coded_width = r.coded_width; coded_height = r.coded_height; «record» = x }
