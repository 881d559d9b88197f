-- `figures::document::file` meets its contract. Its words, written at the front, are the listing's file.
use Rattle.words.specs.Words.{placed_at}
use Rattle.settling.specs.Figures.{file_with, row11, row12, row13, row14, listing_points, listing_file}
use Rattle.settling.proofs.Computing.{computing}
use Rattle.figures.proofs.document.file.Goals as goal

pub returns : goal.returns
unfolding placed_at listing_file file_with row11 row12 row13 row14 listing_points computing
returns c = c.store.ensures
