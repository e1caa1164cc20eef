-- Texts as sinks, and what was written into them.
use Rattle.std.specs.Prelude.{ℕ, ◌/◌, List, chars, vec_capacity}
use Rattle.nom_sink.specs.declared.text.TextSink.{TextSink}

-- its characters
abbrev pub sink_characters : {A : Type 0} → TextSink A → List ℕ
sink_characters s = chars s.bytes.items

-- a character for each four bytes, which is what the longest takes
abbrev pub space_of : {A : Type 0} → TextSink A → ℕ
space_of s = vec_capacity s.bytes / 4
