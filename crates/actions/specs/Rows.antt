-- docs/RULES.md, 'Entries', 'Writing a book' and 'Classes': the rows of the standing notices.
use Rattle.std.specs.Prelude.{List, [], ◌∷◌, ◌++◌, ℕ, take}
use Rattle.notices.specs.declared.Notice.{Notice}
use Rattle.actions.specs.Layout.{filing}

-- "the eleven bytes of its filing, the class at the end", or the first ten of them in a sheet of version 1: row i is the front of the filing action of
-- notice i (`row_at`), and nothing follows the last (`length_rows`, both in proofs/Listings)
unfoldable pub rows : ℕ → List Notice → List ℕ
rows each [] = []
rows each (x ∷ xs) = take each (filing x) ++ rows each xs
