mod SessionRows
mod WithinLots
