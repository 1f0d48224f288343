mod LotReads
mod KeptLots
mod BooksRead
mod LotsSeen
mod SeenLots
mod SessionAnswers
