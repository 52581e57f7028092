use Rattle.bpg_segment_reader.proofs.RunLaws.{found-none, found-some}
use Rattle.bpg_segment_reader.proofs.run.find.Goals as goal

pub returns-in_err-icc_length : goal.returns-in_err-icc_length
returns-in_err-icc_length c =
    rw c.from_residual.ensures
    (found-none c.args.run.now c.part_at-exif.result c.part_at-xmp.result c.part_at-exif.ensures c.part_at-xmp.ensures c.in_err-icc_length.ensures)

pub returns : goal.returns
returns c =
    found-some c.args.run.now c.part_at-exif.result c.part_at-xmp.result c.part_at-exif.ensures c.part_at-xmp.ensures _ c.in_ok-icc_length.ensures
