-- The two-byte header of a NAL unit (H.265, 7.3.1.2): a forbidden bit, six bits of type, six of layer, three of temporal id plus 1.
use Rattle.std.specs.Prelude.{ℕ, ◌+◌, ◌*◌, ◌/◌, ◌%◌, leb}
use Rattle.bpg_nal_units.specs.declared.nal_header.NalHeader.{NalHeader}

abbrev pub header_of : (first second : ℕ) → NalHeader
header_of a b =
    record {
      forbidden_zero_bit = leb 128 a;
      nal_unit_type = a / 2 % 64;
      nuh_layer_id = a % 2 * 32 + b / 8;
      nuh_temporal_id_plus1 = b % 8;
    }
