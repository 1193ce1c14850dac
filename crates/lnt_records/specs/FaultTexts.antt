-- What is wrong with a faulty table, and why one wasn't written, as their types print it.
use Rattle.std.specs.Prelude.{List, ℕ, ◌++◌, codes, decimal}
use Rattle.lnt_records.specs.declared.fault.TableFault.{TableFault}
use Rattle.lnt_records.specs.declared.fault.TableFault.TheVariants.{Header, Fields, Number, Order}
use Rattle.lnt_records.specs.declared.fault.WriteStop.{WriteStop}
use Rattle.lnt_records.specs.declared.fault.WriteStop.TheVariants as stop
use Rattle.lnt_io.specs.declared.io_stop.IoStop.{IoStop}
use Rattle.lnt_io.specs.declared.io_stop.IoStop.TheVariants as io_stop

abbrev pub table_fault_text : TableFault → List ℕ
table_fault_text Header = codes "table header"
table_fault_text (Fields record_number) = codes "table fields record " ++ decimal record_number
table_fault_text (Number record_number column) =
    codes "table number record " ++ (decimal record_number ++ (codes " column " ++ decimal column))
table_fault_text (Order record_number) = codes "table order record " ++ decimal record_number

abbrev pub write_stop_text : WriteStop → List ℕ
write_stop_text stop.Memory = codes "out of memory"
write_stop_text stop.Write = codes "cannot write"

-- ---- how a program ends that couldn't write a table

abbrev pub io_stop_of_write : WriteStop → IoStop
io_stop_of_write stop.Memory = io_stop.Memory
io_stop_of_write stop.Write = io_stop.Write
