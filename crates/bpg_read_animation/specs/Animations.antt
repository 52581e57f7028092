-- What the numbers of a tag 5 payload stand for (document 01, "Order of the file", item 5).
use Rattle.bpg_format.specs.Content.{AnimationControl}
use Rattle.bpg_read_animation.specs.declared.animation.Animation.{Animation}

abbrev pub animation_control : Animation → AnimationControl
animation_control a = record { count = a.loop_count; period_num = a.frame_period_num; period_den = a.frame_period_den }

abbrev pub animation_of_control : AnimationControl → Animation
animation_of_control p = record { loop_count = p.count; frame_period_num = p.period_num; frame_period_den = p.period_den }
