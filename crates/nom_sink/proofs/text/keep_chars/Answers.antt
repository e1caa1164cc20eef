use Rattle.std.proofs.Common.{sym, subst}
use Rattle.std.specs.Prelude.{IsUtf8}
use Rattle.nom_sink.proofs.Texts.{kept}
use Rattle.nom_sink.proofs.text.keep_chars.Goals as goal

pub place_after-place-requires : goal.place_after-place-requires
place_after-place-requires g c = subst IsUtf8 (sym c.as_slice.ensures.value) c.requires

pub returns-clause-valid : goal.returns-clause-valid
returns-clause-valid g c = (kept _ _ _ _ _ c.requires c.as_slice.ensures.value c.place_after-place.ensures c.truncate.ensures.items).valid

pub returns-clause-chars : goal.returns-clause-chars
returns-clause-chars g c = (kept _ _ _ _ _ c.requires c.as_slice.ensures.value c.place_after-place.ensures c.truncate.ensures.items).chars_are
