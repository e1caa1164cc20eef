use Rattle.std.proofs.Common.{sym, subst}
use Rattle.std.specs.Prelude.{IsUtf8}
use Rattle.nom_sink.proofs.Texts.{moved_spells, places_fit}
use Rattle.nom_sink.proofs.text.move_chars.Goals as goal

pub place_after-from-requires : goal.place_after-from-requires
place_after-from-requires g c = subst IsUtf8 (sym c.as_slice.ensures.value) c.requires.valid

pub place_after-to-requires : goal.place_after-to-requires
place_after-to-requires g c = subst IsUtf8 (sym c.as_slice-2.ensures.value) c.requires.valid

pub move_behind-requires : goal.move_behind-requires
move_behind-requires g c =
    let fit = places_fit _ _ _ _ _ _ _ c.requires.valid c.as_slice.ensures.value c.as_slice-2.ensures.value c.requires.start
    c.place_after-from.ensures c.place_after-to.ensures in record { start = fit.0; middle = fit.1 }

pub returns-clause-valid : goal.returns-clause-valid
returns-clause-valid g c = (moved_spells _ _ _ _ _ _ _ _ c.requires.valid c.as_slice.ensures.value c.as_slice-2.ensures.value c.requires.start
    c.place_after-from.ensures c.place_after-to.ensures c.move_behind.ensures.items).valid

pub returns-clause-chars : goal.returns-clause-chars
returns-clause-chars g c = (moved_spells _ _ _ _ _ _ _ _ c.requires.valid c.as_slice.ensures.value c.as_slice-2.ensures.value c.requires.start
    c.place_after-from.ensures c.place_after-to.ensures c.move_behind.ensures.items).chars_are
