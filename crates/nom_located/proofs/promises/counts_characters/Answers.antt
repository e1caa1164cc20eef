use Rattle.nom_located.proofs.Characters.{characters_begin}
use Rattle.nom_located.proofs.promises.counts_characters.Goals as goal

pub returns : goal.returns
returns c = characters_begin c.args._text.now c.utf8._text
