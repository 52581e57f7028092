-- The theorems of the calls over lists.
use mathlib.Core.Path.{◌≡◌, ap}
use mathlib.Core.List.{List}
use Prim.Native.Nat.{ℕ}
use lib.ListN.{length, drop}
use Rattle.bpg_codec.specs.Outcome.{Outcome}
use Rattle.bpg_format.specs.Records.{read_file}
use Rattle.bpg_format.specs.Write.{written_buffer}
use Rattle.bpg_export_list.specs.Numbers.{reading_numbers}
use Rattle.bpg_export_list.proofs.WriteLaws.{listed_ok}
use Rattle.bpg_import_list.specs.Theorems.{ListOf}
use Rattle.bpg_export_read.specs.Calls.{read_answer, read_numbers}
use Rattle.bpg_export.specs.Theorems.{CallTheorems}
use Rattle.bpg_export.proofs.ReadTyped.{read-listable}

read : (f numbers : List ℕ) → (read_answer f numbers).status ≡ 0 → ListOf (read_file f).«record» (read_numbers f numbers)
unfolding read_answer read_numbers
read f numbers z =
    let r = read_file f in
    record {
      width = r.coded_width;
      height = r.coded_height;
      rest = drop (length (reading_numbers r)) numbers;
      is = ap (λ (x : Outcome (List ℕ)). written_buffer x numbers) (listed_ok (length numbers) r z);
    }

pub call-theorems : CallTheorems
call-theorems = record { reading = read-listable; read = read }
