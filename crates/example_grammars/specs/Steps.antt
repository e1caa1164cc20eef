-- A time of a day.
use Rattle.nom.specs.Texts.{TextWord, char_of, map_of, terminated_of, tuple_of_three, u8_of}
use Rattle.example_grammars.specs.declared.steps.Time.{Time}

-- an hour, a minute and a second, with colons between them
abbrev pub clock_of : TextWord Time
clock_of = map_of (λ o. record { hour = o.0; minute = o.1; second = o.2 })
    (tuple_of_three (terminated_of u8_of (char_of 58)) (terminated_of u8_of (char_of 58)) u8_of)
