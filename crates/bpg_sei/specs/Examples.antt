-- Worked examples, by computation.
use Rattle.std.specs.Prelude.{◌≡◌, refl, [], ◌∷◌}
use Rattle.bpg_codec.specs.Select.{select}
use Rattle.bpg_codec.specs.Outcome.{ok, error}
use Rattle.bpg_sei.specs.Messages.{sum_from, payload_of, message_of, ends, messages_up_to, durations_in}

-- a message of type 5, which is skipped, and a duration of 300
second : durations_in (5 ∷ 1 ∷ 9 ∷ 0xFF ∷ 2 ∷ 2 ∷ 1 ∷ 0x2C ∷ 0x80 ∷ []) ≡ ok (300 ∷ [])
unfolding select sum_from payload_of message_of ends messages_up_to
second = refl

-- there is at least one message; a duration has two bytes; nothing stands after the byte 80
no-message : durations_in (0x80 ∷ []) ≡ error 22 0
unfolding select sum_from payload_of message_of ends messages_up_to
no-message = refl

three-bytes : durations_in (0xFF ∷ 2 ∷ 3 ∷ 1 ∷ 2 ∷ 3 ∷ 0x80 ∷ []) ≡ error 22 0
unfolding select sum_from payload_of message_of ends messages_up_to
three-bytes = refl

more-behind : durations_in (5 ∷ 0 ∷ 0x80 ∷ 0 ∷ []) ≡ error 22 0
unfolding select sum_from payload_of message_of ends messages_up_to
more-behind = refl
