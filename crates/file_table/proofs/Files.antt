-- Cases 1 to 12 hold by computing: with every definition of the parse unfolded, what becomes of each file is what its row says.
use mathlib.Core.Path.{refl}
use Rattle.parse.specs.Computing.{computing}
use Rattle.file_table.specs.Table.{table, Right}

-- every row of the table is right
pub files_right : Right table
unfolding computing
files_right = record { becomes = refl; texts = refl }
