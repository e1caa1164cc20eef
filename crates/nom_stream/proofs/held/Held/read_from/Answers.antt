use Rattle.std.proofs.Common.{◌≡◌, ◌≤◌, ◌++◌, length, take, slice_range, vec_len, sym, ap, ◌∙◌, arith}
use Rattle.nom_stream.proofs.Buffer.{grown_in, kept_in}
use Rattle.nom_stream.proofs.held.Held.read_from.Goals as goal

pub returns-in-Ok-clause-given : goal.returns-in-Ok-clause-given
returns-in-Ok-clause-given g c =
    let h = c.args.self.now in
    let l = c.deref_mut.result.now in
    let room = c.read_retried.new.room in
    let n = c.in-Ok.given in
    let value : l ≡ h.bytes.items = c.deref_mut.ensures.value in
    let within : h.end ≤ length l = omega (arith, c.args.self.now.within.1, ap length value) in
    let bound = c.in-Ok.ensures.bound in (
      take n room,
      sym bound.1,
      grown_in (vec_len h.bytes) l room _ _ h.start h.end n c.args.self.now.within.0 within bound.0 (omega arith)
          ∙ ap (λ xs. slice_range xs h.start h.end ++ take n room) value,
      c.in-Ok.ensures.bytes.0,
    )

pub returns-in-Err-clause-fault : goal.returns-in-Err-clause-fault
returns-in-Err-clause-fault g c =
    let h = c.args.self.now in
    let l = c.deref_mut.result.now in
    let room = c.read_retried.new.room in
    let value : l ≡ h.bytes.items = c.deref_mut.ensures.value in
    let within : h.end ≤ length l = omega (arith, c.args.self.now.within.1, ap length value) in
    let same = kept_in (vec_len h.bytes) l room _ _ h.start h.end c.args.self.now.within.0 within c.args.self.now.within.1 in
    (same ∙ ap (λ xs. slice_range xs h.start h.end) value, c.in-Err.ensures.bytes)
