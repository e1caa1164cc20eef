use Rattle.std.proofs.Common.{◌+◌, ◌*◌}
use Rattle.nom_internal.specs.Prelude.{input_len, text_model}
use Rattle.example_json.specs.Json.{member_of, value_of}
use Rattle.example_json.proofs.Lists.{Listed}
use Rattle.example_json.proofs.values.+values.Given as goal

-- a value calls an array or an object at a lower depth, and they call what they are made of at the same
abbrev pub decreases-value : goal.decreases-value
decreases-value l = 5 * l.depth

abbrev pub decreases-array : goal.decreases-array
decreases-array l = 5 * l.depth + 4

abbrev pub decreases-object : goal.decreases-object
decreases-object l = 5 * l.depth + 4

abbrev pub decreases-elements : goal.decreases-elements
decreases-elements l = 5 * l.depth + 3

abbrev pub decreases-members : goal.decreases-members
decreases-members l = 5 * l.depth + 3

abbrev pub decreases-next_element : goal.decreases-next_element
decreases-next_element l = 5 * l.depth + 2

abbrev pub decreases-next_member : goal.decreases-next_member
decreases-next_member l = 5 * l.depth + 2

abbrev pub decreases-member : goal.decreases-member
decreases-member l = 5 * l.depth + 1

abbrev pub invariant-elements-loop-alloc : goal.invariant-elements-loop-alloc
invariant-elements-loop-alloc l = Listed (value_of l.fn.depth) l.fn.start.text l.place.text l.list.items

abbrev pub decreases-elements-loop-alloc : goal.decreases-elements-loop-alloc
decreases-elements-loop-alloc l = input_len text_model l.place.text

abbrev pub invariant-members-loop-alloc : goal.invariant-members-loop-alloc
invariant-members-loop-alloc l = Listed (member_of (value_of l.fn.depth)) l.fn.start.text l.place.text l.list.items

abbrev pub decreases-members-loop-alloc : goal.decreases-members-loop-alloc
decreases-members-loop-alloc l = input_len text_model l.place.text
