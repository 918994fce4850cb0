-- `fields::put_number` meets its contract: the digits of v / 10, and the last one behind them. The number falls at each call.
use Rattle.fields.proofs.+put_number.Given as goal

abbrev pub decreases-put_number : goal.decreases-put_number
decreases-put_number l = l.v
