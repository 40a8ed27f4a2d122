-- What the fields of a heap with trains stand for, and what they keep.
use Rattle.std.specs.Prelude.{◌-◌, ◌++◌}
use Rattle.std.specs.BinaryHeap.{IsHeap, heap_capacity, heap_items, heap_len}
use Rattle.ds_conductor_base.specs.Trains.{AreTrains, Stock, rows_in}
use Rattle.ds_conductor_base.specs.Waits.{first_on_top}
use Rattle.ds_conductor_base.specs.declared.trains.Trains.TheInside as stocks

abbrev pub stock_of : stocks.Inside → Stock
stock_of s =
    record { rows = heap_items s.heap ++ rows_in s.trains.items; room = heap_capacity s.heap - heap_len s.heap }

-- the first of the heap is on top, with that of each train in it
pub record IsStock (s : stocks.Inside) : Type 0 where
  pub ordered : IsHeap first_on_top (heap_items s.heap)
  pub trains : AreTrains (heap_items s.heap) s.trains.items
