-- Reading a file answers by whether it is accepted.
use mathlib.Core.Path.{◌≡◌, sym, ap, ◌∙◌}
use mathlib.Core.Logic.{◌↔◌}
use mathlib.Core.List.{List}
use Prim.Native.Nat.{ℕ, ◌<◌}
use lib.ListN.{length}
use borrow.Author.Tests.{lt-leb}
use Rattle.bpg_codec.specs.Lawful.{All, Byte}
use Rattle.bpg_format.specs.Limits.{max_file}
use Rattle.bpg_format.specs.declared.answer.Reading.{Reading}
use Rattle.bpg_format.specs.Zero.{refused_reading}
use Rattle.bpg_format.specs.Rules.{Accepted}
use Rattle.bpg_format.specs.Read.{read_content}
use Rattle.bpg_format.specs.Records.{read_file}
use Rattle.bpg_format.proofs.ReadingLaws.{accepted-status, status-accepted}

pub too_long : (file : List ℕ) → max_file < length file → refused_reading 1 0 ≡ read_file file
unfolding read_file read_content
too_long file h = rw (lt-leb (length file) max_file h)

-- of bytes, the status is 0 exactly when they are an accepted file
pub exact : (file : List ℕ) → All Byte file → (r : Reading) → r ≡ read_file file → (r.status ≡ 0) ↔ Accepted file
exact file bytes r e =
    let status = ap (λ (x : Reading). x.status) e in
    (λ z. status-accepted file bytes (sym status ∙ z), λ a. status ∙ accepted-status file a)
