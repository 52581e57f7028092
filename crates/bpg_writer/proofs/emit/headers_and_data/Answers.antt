use Rattle.std.proofs.Common.{◌≡◌, true, ℕ, ◌++◌, ◌+◌, ◌-◌, length-append, take, drop, ap, arith}
use Rattle.bpg_format.specs.Records.{bytes_in}
use Rattle.bpg_write_plan.specs.FileParts.{header_part}
use Rattle.bpg_writer.proofs.PutLaws.{put-end, put_same, put_then}
use Rattle.bpg_writer.proofs.emit.headers_and_data.Goals as goal

pub header-q-requires-clause-bits_bound : goal.header-q-requires-clause-bits_bound
header-q-requires-clause-bits_bound c =
    let alpha = header_part c.args.alpha_present c.args.alpha in
    let color = header_part true c.args.color in
    let last = bytes_in c.args.source.now c.args.«data» in
    let e = put-end c.args.out.now c.args.at.0 alpha (omega (arith, c.requires.data_bound_2, length-append alpha (color ++ last))) (c.header-p.ensures.out_after, c.header-p.ensures.result_value) in
    omega (arith, e.0, e.1, c.requires.data_bound_2, length-append alpha (color ++ last), length-append color last)

pub returns : goal.returns
returns c =
    let alpha = header_part c.args.alpha_present c.args.alpha in
    let color = header_part true c.args.color in
    let d = c.args.«data» in
    let last = bytes_in c.args.source.now d in
    let n : d.start + d.length - d.start ≡ d.length = omega arith in
    let p = put_then c.args.out.now c.args.at.0 alpha (color ++ last) c.requires.data_bound_2 (c.header-p.ensures.out_after, c.header-p.ensures.result_value) λ f.
    put_then c.header-p.new.out _ color last f (c.header-q.ensures.out_after, c.header-q.ensures.result_value) λ _.
    put_same c.header-q.new.out _ (ap (λ (m : ℕ). take m (drop d.start c.args.source.now)) n) (c.write.ensures.out_after, c.write.ensures.result_value) in
    record { out_after = p.0; result_value = p.1 }
