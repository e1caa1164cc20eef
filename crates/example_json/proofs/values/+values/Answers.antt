use Rattle.std.proofs.Common.{sym, ◌∙◌, refl, subst}
use Rattle.std.specs.Prelude.{IfOk, ◌<◌}
use Rattle.nom_internal.specs.Prelude.{input_len, text_model}
use Rattle.nom_internal.proofs.Shown.{err_from_residual}
use Rattle.example_json.specs.Json.{member_of, value_of}
use Rattle.example_json.proofs.Branches.{a_scalar, an_array, an_object, none_deeper}
use Rattle.example_json.proofs.Lists.{ended, first_item, further_item, grown, kept, lacking, none_held, none_yet, stopped}
use Rattle.example_json.proofs.Tokens.{moved_not, shorter}
use Rattle.example_json.proofs.values.+values.Goals as goal

pub next_element-returns-in_err-after-clause-moves : goal.next_element-returns-in_err-after-clause-moves
next_element-returns-in_err-after-clause-moves t c = moved_not c.args.input (err_from_residual c.from_residual.ensures)

pub next_element-returns-in_err-rest-clause-moves : goal.next_element-returns-in_err-rest-clause-moves
next_element-returns-in_err-rest-clause-moves t c = moved_not c.args.input (err_from_residual c.from_residual-in_err-rest.ensures)

pub next_element-returns-clause-moves : goal.next_element-returns-clause-moves
next_element-returns-clause-moves t c = shorter (value_of c.args.depth) 44 _ _ _ _ _ c.in_ok-after.ensures c.in_ok-rest.ensures

pub next_member-returns-in_err-after-clause-moves : goal.next_member-returns-in_err-after-clause-moves
next_member-returns-in_err-after-clause-moves t c = moved_not c.args.input (err_from_residual c.from_residual.ensures)

pub next_member-returns-in_err-rest-clause-moves : goal.next_member-returns-in_err-rest-clause-moves
next_member-returns-in_err-rest-clause-moves t c = moved_not c.args.input (err_from_residual c.from_residual-in_err-rest.ensures)

pub next_member-returns-clause-moves : goal.next_member-returns-clause-moves
next_member-returns-clause-moves t c = shorter (member_of (value_of c.args.depth)) 44 _ _ _ _ _ c.in_ok-after.ensures c.in_ok-rest.ensures

pub value-returns-then-not-is_refused : goal.value-returns-then-not-is_refused
value-returns-then-not-is_refused t c = a_scalar _ _ c.args.depth c.scalar-answer.ensures (sym c.if-not-is_refused.true ∙ c.is_refused.ensures)

pub value-returns-then-depth-eq0 : goal.value-returns-then-depth-eq0
value-returns-then-depth-eq0 t c =
    none_deeper _ _ _ c.scalar-answer.ensures (sym c.if-not-is_refused.false ∙ c.is_refused.ensures) c.args.depth c.if-depth-eq0.true c.too_deep.ensures

pub value-returns-then-not-is_refused-2 : goal.value-returns-then-not-is_refused-2
value-returns-then-not-is_refused-2 t c =
    an_array _ _ _ c.scalar-answer.ensures (sym c.if-not-is_refused.false ∙ c.is_refused.ensures) c.args.depth c.if-depth-eq0.false c.array-answer.ensures
    (sym c.if-not-is_refused-2.true ∙ c.is_refused-2.ensures)

pub value-returns : goal.value-returns
value-returns t c =
    an_object _ _ _ c.scalar-answer.ensures (sym c.if-not-is_refused.false ∙ c.is_refused.ensures) c.args.depth c.if-depth-eq0.false _ c.array-answer.ensures
    (sym c.if-not-is_refused-2.false ∙ c.is_refused-2.ensures) c.object.ensures

pub elements-returns-then-is_refused : goal.elements-returns-then-is_refused
elements-returns-then-is_refused t c =
    let g = value_of c.args.depth in
    let known = c.known.ensures in
    ended g (none_yet g _ known) (first_item g _ _ c.value-answer.ensures) (sym c.if-is_refused.true ∙ c.is_refused.ensures)
    (none_held g _ c.new-list.ensures.items) refl

pub elements-returns-in_err-rest : goal.elements-returns-in_err-rest
elements-returns-in_err-rest t c =
    let g = value_of c.args.depth in
    stopped g (none_yet g _ c.known.ensures) (first_item g _ _ c.value-answer.ensures) c.in_err-rest.was (err_from_residual c.from_residual.ensures)
    (sym c.if-is_refused.false ∙ c.is_refused.ensures)

pub elements-returns-then-is_err : goal.elements-returns-then-is_err
elements-returns-then-is_err t c =
    let g = value_of c.args.depth in
    lacking g (none_yet g _ c.known.ensures) (first_item g _ _ c.value-answer.ensures) c.in_ok-rest.was refl

pub elements-loop-alloc-init : goal.elements-loop-alloc-init
elements-loop-alloc-init t c =
    let g = value_of c.args.depth in
    let known = c.known.ensures in
    kept g (none_yet g _ known) (first_item g _ _ c.value-answer.ensures) c.in_ok-rest.was _ _ (none_held g _ c.new-list.ensures.items)
    (grown c.push.result _ _ _ c.push.ensures.items (sym c.is_err.ensures.value ∙ c.if-is_err.false))

pub elements-returns-then-is_refused-2 : goal.elements-returns-then-is_refused-2
elements-returns-then-is_refused-2 t c =
    let g = value_of c.args.depth in
    let there = c.loop-alloc.invariant in
    ended g there (further_item g _ there.held.1 _ _ c.next_element-answer.ensures.shown) (sym c.if-is_refused-2.true ∙ c.is_refused-in-loop-alloc.ensures)
    there.held.0 refl

pub elements-returns-in_err-rest-2 : goal.elements-returns-in_err-rest-2
elements-returns-in_err-rest-2 t c =
    let g = value_of c.args.depth in
    let there = c.loop-alloc.invariant in
    stopped g there (further_item g _ there.held.1 _ _ c.next_element-answer.ensures.shown) c.in_err-rest-2.was
    (err_from_residual c.from_residual-in_err-rest-2.ensures)
    (sym c.if-is_refused-2.false ∙ c.is_refused-in-loop-alloc.ensures)

pub elements-returns-then-is_err-2 : goal.elements-returns-then-is_err-2
elements-returns-then-is_err-2 t c =
    let g = value_of c.args.depth in
    let there = c.loop-alloc.invariant in
    lacking g there (further_item g _ there.held.1 _ _ c.next_element-answer.ensures.shown) c.in_ok-rest-2.was refl

pub elements-loop-alloc-smaller : goal.elements-loop-alloc-smaller
elements-loop-alloc-smaller t c = subst (λ r. IfOk r (λ a. input_len text_model a.0 < input_len text_model c.loop-alloc.place.text))
    c.in_ok-rest-2.was c.next_element-answer.ensures.moves

pub elements-loop-alloc-preserved : goal.elements-loop-alloc-preserved
elements-loop-alloc-preserved t c =
    let g = value_of c.args.depth in
    let there = c.loop-alloc.invariant in
    kept g there (further_item g _ there.held.1 _ _ c.next_element-answer.ensures.shown) c.in_ok-rest-2.was _ _ there.held.0
    (grown c.push-in-loop-alloc.result _ _ _ c.push-in-loop-alloc.ensures.items (sym c.is_err-in-loop-alloc.ensures.value ∙ c.if-is_err-2.false))

pub members-returns-then-is_refused : goal.members-returns-then-is_refused
members-returns-then-is_refused t c =
    let g = member_of (value_of c.args.depth) in
    let known = c.known.ensures in
    ended g (none_yet g _ known) (first_item g _ _ c.member-answer.ensures) (sym c.if-is_refused.true ∙ c.is_refused.ensures)
    (none_held g _ c.new-list.ensures.items) refl

pub members-returns-in_err-rest : goal.members-returns-in_err-rest
members-returns-in_err-rest t c =
    let g = member_of (value_of c.args.depth) in
    stopped g (none_yet g _ c.known.ensures) (first_item g _ _ c.member-answer.ensures) c.in_err-rest.was (err_from_residual c.from_residual.ensures)
    (sym c.if-is_refused.false ∙ c.is_refused.ensures)

pub members-returns-then-is_err : goal.members-returns-then-is_err
members-returns-then-is_err t c =
    let g = member_of (value_of c.args.depth) in
    lacking g (none_yet g _ c.known.ensures) (first_item g _ _ c.member-answer.ensures) c.in_ok-rest.was refl

pub members-loop-alloc-init : goal.members-loop-alloc-init
members-loop-alloc-init t c =
    let g = member_of (value_of c.args.depth) in
    let known = c.known.ensures in
    kept g (none_yet g _ known) (first_item g _ _ c.member-answer.ensures) c.in_ok-rest.was _ _ (none_held g _ c.new-list.ensures.items)
    (grown c.push.result _ _ _ c.push.ensures.items (sym c.is_err.ensures.value ∙ c.if-is_err.false))

pub members-returns-then-is_refused-2 : goal.members-returns-then-is_refused-2
members-returns-then-is_refused-2 t c =
    let g = member_of (value_of c.args.depth) in
    let there = c.loop-alloc.invariant in
    ended g there (further_item g _ there.held.1 _ _ c.next_member-answer.ensures.shown) (sym c.if-is_refused-2.true ∙ c.is_refused-in-loop-alloc.ensures)
    there.held.0 refl

pub members-returns-in_err-rest-2 : goal.members-returns-in_err-rest-2
members-returns-in_err-rest-2 t c =
    let g = member_of (value_of c.args.depth) in
    let there = c.loop-alloc.invariant in
    stopped g there (further_item g _ there.held.1 _ _ c.next_member-answer.ensures.shown) c.in_err-rest-2.was
    (err_from_residual c.from_residual-in_err-rest-2.ensures)
    (sym c.if-is_refused-2.false ∙ c.is_refused-in-loop-alloc.ensures)

pub members-returns-then-is_err-2 : goal.members-returns-then-is_err-2
members-returns-then-is_err-2 t c =
    let g = member_of (value_of c.args.depth) in
    let there = c.loop-alloc.invariant in
    lacking g there (further_item g _ there.held.1 _ _ c.next_member-answer.ensures.shown) c.in_ok-rest-2.was refl

pub members-loop-alloc-smaller : goal.members-loop-alloc-smaller
members-loop-alloc-smaller t c = subst (λ r. IfOk r (λ a. input_len text_model a.0 < input_len text_model c.loop-alloc.place.text))
    c.in_ok-rest-2.was c.next_member-answer.ensures.moves

pub members-loop-alloc-preserved : goal.members-loop-alloc-preserved
members-loop-alloc-preserved t c =
    let g = member_of (value_of c.args.depth) in
    let there = c.loop-alloc.invariant in
    kept g there (further_item g _ there.held.1 _ _ c.next_member-answer.ensures.shown) c.in_ok-rest-2.was _ _ there.held.0
    (grown c.push-in-loop-alloc.result _ _ _ c.push-in-loop-alloc.ensures.items (sym c.is_err-in-loop-alloc.ensures.value ∙ c.if-is_err-2.false))
