use Rattle.std.proofs.Common.{arith, ◌∙◌}
use Rattle.bpg_codec.proofs.Tokens.{all-bytes}
use Rattle.bpg_segment_export.proofs.CallLaws.{unread, inside, exif-twice, xmp-twice, icc-twice, once}
use Rattle.bpg_segment_export.proofs.call.export_segments.Goals as goal

pub returns-then-reading-ne0 : goal.returns-then-reading-ne0
returns-then-reading-ne0 c =
    let a = unread c.args.file.now c.args.out.now c.read-reading.result c.read-reading.ensures.value c.if-reading-ne0.true in
    record { value = a.0; out_after = a.1 }

pub returns-in_default : goal.returns-in_default
returns-in_default c =
    let a = exif-twice c.args.file.now c.args.out.now c.read-reading.result c.read-reading.ensures.value c.if-reading-ne0.false c.in_default.ensures in
    record { value = c.tag_twice.ensures ∙ a.0; out_after = a.1 }

pub returns-in_default-with_tag : goal.returns-in_default-with_tag
returns-in_default-with_tag c =
    let a = xmp-twice c.args.file.now c.args.out.now c.read-reading.result c.read-reading.ensures.value c.if-reading-ne0.false c.in_default-with_tag.ensures in
    record { value = c.tag_twice-in_default-with_tag.ensures ∙ a.0; out_after = a.1 }

pub returns-in_default-with_tag-2 : goal.returns-in_default-with_tag-2
returns-in_default-with_tag-2 c =
    let a = icc-twice c.args.file.now c.args.out.now c.read-reading.result c.read-reading.ensures.value c.if-reading-ne0.false c.in_default-with_tag-2.ensures in
    record { value = c.tag_twice-in_default-with_tag-2.ensures ∙ a.0; out_after = a.1 }

pub bytes-requires : goal.bytes-requires
bytes-requires c =
    inside c.args.file.now c.args.out.now c.read-reading.result c.read-reading.ensures.value (all-bytes c.args.file.now (λ i. omega (arith, c.type_inv.file i))) 1 _ c.in-Some.ensures

pub bytes-requires-2 : goal.bytes-requires-2
bytes-requires-2 c =
    inside c.args.file.now c.args.out.now c.read-reading.result c.read-reading.ensures.value (all-bytes c.args.file.now (λ i. omega (arith, c.type_inv.file i))) 3 _
    c.in-Some-with_tag.ensures

pub bytes-requires-3 : goal.bytes-requires-3
bytes-requires-3 c =
    inside c.args.file.now c.args.out.now c.read-reading.result c.read-reading.ensures.value (all-bytes c.args.file.now (λ i. omega (arith, c.type_inv.file i))) 2 _
    c.in-Some-with_tag-2.ensures

pub returns : goal.returns
returns c =
    let a = once c.args.file.now c.args.out.now c.read-reading.result c.read-reading.ensures.value c.if-reading-ne0.false
    _ _ _ c.in-Some.ensures c.in-Some-with_tag.ensures c.in-Some-with_tag-2.ensures _ _ _ c.bytes.ensures c.bytes-2.ensures c.bytes-3.ensures
    c.write_run.ensures.value c.write_run.ensures.out_after in
    record { value = a.0; out_after = a.1 }
