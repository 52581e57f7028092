-- The requirements of the head call are met.
use mathlib.Core.Path.{◌≡◌, refl, sym, ap, ◌∙◌}
use mathlib.Core.Logic.{◌≢◌}
use mathlib.Core.List.{List}
use Prim.Native.Nat.{ℕ, ◌≤◌}
use lib.ListN.{take}
use Rattle.bpg_codec.specs.Select.{select}
use Rattle.bpg_codec.specs.Outcome.{Outcome, ok, error}
use Rattle.bpg_codec.specs.Lawful.{All, Byte}
use Rattle.bpg_ue7.specs.Ue7.{ue7_rest, ue7_decode}
use Rattle.bpg_format.specs.Read.{Head, read_flags, read_head}
use Rattle.bpg_head_rules.specs.Calls.{refused_head_reading, head_reading, head_file, HeadStatus}
use Rattle.bpg_head_rules.specs.Requirements.{longest, enough_bytes, oversize, HeadCall}
use Rattle.bpg_head_rules.proofs.HeadRefusals.{head-refuses}
use Rattle.bpg_head_rules.proofs.PrefixLaws.{first-bytes}
use Rattle.bpg_head_rules.proofs.OwnBytes.{own-bytes}

enough : (f : List ℕ) → All Byte f → (n : ℕ) → enough_bytes ≤ n → head_file (take n f) ≡ head_file f
unfolding head_file
enough f bytes n h = ap head_reading (first-bytes n f bytes h)

needed : (head_file (take 26 longest) ≡ refused_head_reading 2 26) × (head_file longest ≡ refused_head_reading 8 26)
unfolding head_file read_head read_flags ue7_decode ue7_rest select
needed = (refl, refl)

never-oversize : ((head_file oversize).status ≡ 0) × ((head_file oversize).head.extension_length ≡ 127)
unfolding head_file read_head read_flags ue7_decode ue7_rest select
never-oversize = (refl, refl)

pub refused : (f : List ℕ) → (head_file f).status ≢ 0 → head_file f ≡ refused_head_reading (head_file f).status (head_file f).offset
unfolding head_file
refused f n = by (read_head f) n
  where
    by : (o : Outcome Head) → (head_reading o).status ≢ 0 → head_reading o ≡ refused_head_reading (head_reading o).status (head_reading o).offset
    by (ok h) n = absurd (n refl)
    by (error s o) n = refl

number : (f : List ℕ) → (head_file f).status ≢ 0 → HeadStatus (head_file f).status
unfolding head_file
number f n = by (read_head f) refl n
  where
    by : (o : Outcome Head) → read_head f ≡ o → (head_reading o).status ≢ 0 → HeadStatus (head_reading o).status
    by (ok h) e n = absurd (n refl)
    by (error s o) e n = head-refuses f s o e

alone : (f : List ℕ) (h : Head) → read_head f ≡ ok h → head_file (take h.end f) ≡ head_file f
unfolding head_file
alone f h e = ap head_reading (own-bytes f h e ∙ sym e)

pub head-call : HeadCall
head-call = record { enough = enough; needed = needed; refused = refused; number = number; never-oversize = never-oversize; alone = alone }
